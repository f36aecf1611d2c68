-- A message is read again from its objects, where these are such as count, are plain, and say it.
use Rattle.std.proofs.Common.{◌≡◌, ℕ, Bool, true, false, not, ◌&&◌, ◌||◌, nat_eq, if◌then◌else◌, List, [], ◌∷◌, Option, Some, None, Result, Ok, Err, refl, ap, ◌∙◌}
use Rattle.std.specs.Prelude.{find}
use Rattle.std.specs.Option.{option_map, ok_or}
use Rattle.std.specs.List.{list_all, list_any}
use Rattle.std.proofs.lemmas.Bool.{and_parts, cond-true, cond-false, not-true}
use Rattle.rsvp_objects.specs.declared.object.Object.{Object}
use Rattle.rsvp_contents.specs.declared.dropped.Dropped.{Dropped}
use Rattle.rsvp_contents.specs.declared.dropped.Dropped.TheVariants as dropped
use Rattle.rsvp_contents.specs.declared.messages.Content.{Content}
use Rattle.rsvp_contents.specs.declared.message.Reading.{Reading}
use Rattle.rsvp_contents.specs.declared.message.Reading.TheVariants as readings
use Rattle.rsvp_contents.specs.Behind.{flows_in, looked_at}
use Rattle.rsvp_contents.specs.Counting.{class_of, counting, refuses}
use Rattle.rsvp_contents.specs.Picking.{parts_in, passing_of, content_of, is_short, reading_of, objects_read}
use Rattle.rsvp_contents.proofs.Rows.{is_plain}

-- plain objects have no INTEGRITY
pub no_integrity : (type : ℕ) (os : List Object) → list_all (is_plain type) os ≡ true → list_any (λ o. nat_eq (class_of o) 4) os ≡ false
no_integrity type [] h = refl
no_integrity type (o ∷ os) h =
    let parts = and_parts (is_plain type o) (list_all (is_plain type) os) h in
    let here = not-true (nat_eq (class_of o) 4) (and_parts (not (nat_eq (class_of o) 4)) (not (refuses type o)) parts.0).0 in
    ap (λ (b : Bool). b || list_any (λ x. nat_eq (class_of x) 4) os) here ∙ no_integrity type os parts.1

-- and none that makes their message unknown
pub none_refused : (type : ℕ) (os : List Object) → list_all (is_plain type) os ≡ true → find (refuses type) os ≡ None
none_refused type [] h = refl
none_refused type (o ∷ os) h =
    let parts = and_parts (is_plain type o) (list_all (is_plain type) os) h in
    let here = not-true (refuses type o) (and_parts (not (nat_eq (class_of o) 4)) (not (refuses type o)) parts.0).1 in
    ap (λ (b : Bool). if b then Some o else find (refuses type) os) here ∙ none_refused type os parts.1

-- what is said of a message, after its tests
after_tests : (integrity short : Bool) (o : Option Content) (found : Option Object) (content : Content) → integrity ≡ false → short ≡ true → o ≡ Some content → found ≡ None →
    (if integrity then Err dropped.Integrity
    else if short then ok_or (option_map (λ c. reading_of c found) o) dropped.MissingObject
    else Err dropped.TooLong) ≡ Ok (readings.Whole content)
after_tests integrity short o found content plain is_short says none = rw (plain, is_short, says, none) refl

-- What objects have to be, so that a message of this type is read again from them.
pub record SaysAgain (type : ℕ) (os : List Object) (content : Content) : Type 0 where
  pub whole : counting type os ≡ os
  pub seen : looked_at type os ≡ os
  pub plain : list_all (is_plain type) os ≡ true
  pub short : is_short type (parts_in type os) (passing_of type os) (flows_in type os) ≡ true
  pub says : content_of type os ≡ Some content

pub read_again : (type : ℕ) (os : List Object) (content : Content) → SaysAgain type os content → objects_read type os ≡ Ok (readings.Whole content)
read_again type os content h =
    ap (λ (xs : List Object).
    if list_any (λ o. nat_eq (class_of o) 4) xs then Err dropped.Integrity
    else if is_short type (parts_in type xs) (passing_of type xs) (flows_in type xs)
    then ok_or (option_map (λ c. reading_of c (find (refuses type) xs)) (content_of type xs)) dropped.MissingObject
    else Err dropped.TooLong) (ap (looked_at type) h.whole ∙ h.seen)
    ∙ after_tests (list_any (λ o. nat_eq (class_of o) 4) os) (is_short type (parts_in type os) (passing_of type os) (flows_in type os)) (content_of type os) (find (refuses type) os) content (no_integrity type os h.plain) h.short h.says (none_refused type os h.plain)
