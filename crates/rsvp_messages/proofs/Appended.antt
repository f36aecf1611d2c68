-- Objects that are written one behind the other.
use Rattle.std.proofs.Common.{rules, Result, Ok, Err, OnErr, ◌≡◌, ◌<◌, ◌≤◌, ◌+◌, ◌++◌, ℕ, List, [], ◌∷◌, length, get_or, take, drop, Option, Some, arith, refl, subst, ap, sym, ◌∙◌, map, filter, not, ◌==◌}
use Rattle.std.specs.List.{flat_map, All}
use Rattle.std.proofs.lemmas.List.{append_assoc, append-nil, length-append, map-append, take-take, take_more}
use Rattle.std.proofs.Math.Seq.{take-append_seam}
use Rattle.std.proofs.lemmas.List.Concat.{flat_map-append}
use Rattle.std.proofs.lemmas.List.Elements.{All-append, All-cons, filter-append}
use Rattle.rsvp_objects.specs.declared.object.Object.{Object}
use Rattle.rsvp_objects.specs.declared.object.Object.TheVariants as objects
use Rattle.rsvp_objects.specs.Raw.{Raw}
use Rattle.rsvp_objects.specs.Objects.{spelling}
use Rattle.rsvp_contents.specs.declared.descriptors.ErrorDescriptor.{ErrorDescriptor}
use Rattle.rsvp_contents.specs.declared.descriptors.FlowDescriptor.{FlowDescriptor}
use Rattle.rsvp_contents.specs.Errors.{error_objects}
use Rattle.rsvp_contents.specs.Flows.{flow_objects}
use Rattle.rsvp_contents.proofs.Sizes.{drop_one}
use Rattle.rsvp_contents.specs.declared.messages.Path.{Path}
use Rattle.rsvp_contents.specs.Written.{adspec, before_sender, path_objects}
use Rattle.rsvp_messages.specs.Parts.{IsSpelled, path_sender, path_start, path_wish}

-- a choice among objects that takes each by itself
abbrev pub IsEachByItself : (List Raw → List Object) → Type 0
IsEachByItself chosen = (xs ys : List Raw) → chosen (xs ++ ys) ≡ chosen xs ++ chosen ys

-- what stands before the sender, and the ADSPEC, are such choices
pub before_sender-append : IsEachByItself before_sender
before_sender-append xs ys =
    ap (λ (v : List Raw). map objects.Other v) (filter-append (λ o. not (o.class == 13)) xs ys)
    ∙ map-append objects.Other (filter (λ o. not (o.class == 13)) xs) (filter (λ o. not (o.class == 13)) ys)

pub adspec-append : IsEachByItself adspec
adspec-append xs ys =
    ap (λ (v : List Raw). map objects.Other v) (filter-append (λ o. o.class == 13) xs ys)
    ∙ map-append objects.Other (filter (λ o. o.class == 13) xs) (filter (λ o. o.class == 13) ys)

-- one list of objects is written, and then another
pub two_written : (old mid new : List ℕ) (xs ys : List Object) → mid ≡ old ++ flat_map spelling xs → new ≡ mid ++ flat_map spelling ys → new ≡ old ++ flat_map spelling (xs ++ ys)
two_written old mid new xs ys first second =
    second ∙ ap (λ (b : List ℕ). b ++ flat_map spelling ys) first
    ∙ append_assoc old (flat_map spelling xs) (flat_map spelling ys)
    ∙ ap (λ (b : List ℕ). old ++ b) (sym (flat_map-append spelling xs ys))

one_more_chosen : (chosen : List Raw → List Object) → IsEachByItself chosen → (xs : List Raw) (i : ℕ) (x : Raw) → i < length xs → x ≡ get_or xs i x → chosen (take (i + 1) xs) ≡ chosen (take i xs) ++ chosen (x ∷ [])
one_more_chosen chosen each xs i x within is =
    ap chosen (take_more xs i x within ∙ ap (λ (v : Raw). take i xs ++ v ∷ []) (sym is)) ∙ each (take i xs) (x ∷ [])

-- the step of a loop that writes what is chosen
pub one_more_written : (chosen : List Raw → List Object) → IsEachByItself chosen → (old mid new : List ℕ) (xs : List Raw) (i : ℕ) (x : Raw) → i < length xs → x ≡ get_or xs i x → mid ≡ old ++ flat_map spelling (chosen (take i xs)) → new ≡ mid ++ flat_map spelling (chosen (x ∷ [])) → new ≡ old ++ flat_map spelling (chosen (take (i + 1) xs))
one_more_written chosen each old mid new xs i x within is first second =
    two_written old mid new (chosen (take i xs)) (chosen (x ∷ [])) first second
    ∙ ap (λ (v : List Object). old ++ flat_map spelling v) (sym (one_more_chosen chosen each xs i x within is))

pub one_more_spelled : (chosen : List Raw → List Object) → IsEachByItself chosen → (xs : List Raw) (i : ℕ) (x : Raw) → i < length xs → x ≡ get_or xs i x → All IsSpelled (chosen (take i xs)) → All IsSpelled (chosen (x ∷ [])) → All IsSpelled (chosen (take (i + 1) xs))
one_more_spelled chosen each xs i x within is before here =
    subst (λ (v : List Object). All IsSpelled v) (sym (one_more_chosen chosen each xs i x within is))
    (All-append IsSpelled (chosen (take i xs)) (chosen (x ∷ [])) before here)

-- the objects of a Path are those of its parts
pub path_parts : (p : Path) → path_start p ++ (path_wish p ++ (before_sender p.passing ++ path_sender p)) ≡ path_objects p
path_parts p = simp append_assoc

-- What is written so far, and what is left to be written.
pub record IsWritten (old new : List ℕ) (all rest : List Object) : Type 0 where
  pub written : List Object
  pub stands : new ≡ old ++ flat_map spelling written
  pub whole : all ≡ written ++ rest
  pub spelled : All IsSpelled written

pub none_written : (old : List ℕ) (all : List Object) → All IsSpelled [] → IsWritten old old all all
none_written old all none = record { written = []; stands = sym (append-nil old); whole = refl; spelled = none }

-- one more is written of what is left
pub more_written : (old mid new : List ℕ) (all left here rest : List Object) → IsWritten old mid all left → left ≡ here ++ rest → new ≡ mid ++ flat_map spelling here → All IsSpelled here → IsWritten old new all rest
more_written old mid new all left here rest so splits more spelled = record {
  written = so.written ++ here;
  stands = two_written old mid new so.written here so.stands more;
  whole = so.whole ∙ ap (λ (v : List Object). so.written ++ v) splits ∙ sym (append_assoc so.written here rest);
  spelled = All-append IsSpelled so.written here so.spelled spelled;
}

-- and so where it is a single object
pub one_written : (old mid new : List ℕ) (all left rest : List Object) (o : Object) → IsWritten old mid all left → left ≡ o ∷ rest → new ≡ mid ++ spelling o → IsSpelled o → IsWritten old new all rest
one_written old mid new all left rest o so splits more spelled =
    more_written old mid new all left (o ∷ []) rest so splits (more ∙ ap (λ (b : List ℕ). mid ++ b) (sym (append-nil (spelling o)))) (All-cons IsSpelled o [] spelled (search rules))

-- What stands in front of what is written stays where what is behind it does.
pub front_behind : (old mid new more : List ℕ) → mid ≡ old ++ more → take (length mid) new ≡ mid → take (length old) new ≡ old
front_behind old mid new more is front =
    let less : length old ≤ length mid = omega (arith, ap length is, length-append old more) in
    sym (take-take (length old) (length mid) new less) ∙ ap (take (length old)) (front ∙ is) ∙ take-append_seam old more

-- where writing one fails, what stood there stays
pub front_stays : (old mid new : List ℕ) (all rest : List Object) → IsWritten old mid all rest → take (length mid) new ≡ mid → take (length old) new ≡ old
front_stays old mid new all rest so front = front_behind old mid new (flat_map spelling so.written) so.stands front

-- what holds anyhow holds where there is no memory
pub on_err_from : {T E P : Type 0} (r : Result T E) → P → OnErr r P
on_err_from (Ok x) p = tt
on_err_from (Err e) p = p

-- flow descriptors are those of the first and of the others
pub flow_split : (before : Option (List ℕ)) (d : FlowDescriptor) (ds : List FlowDescriptor) → flow_objects before (d ∷ ds) ≡ flow_objects before (d ∷ []) ++ flow_objects (Some d.flowspec) ds
flow_split before d ds = simp append_assoc

pub error_split : (before : Option (List ℕ)) (e : ErrorDescriptor) (es : List ErrorDescriptor) → error_objects before (e ∷ es) ≡ error_objects before (e ∷ []) ++ error_objects e.flowspec es
error_split before e es = simp append_assoc

-- so what the rest is written as is that of the first of it and of the others
pub flow_left : (before : Option (List ℕ)) (ds : List FlowDescriptor) (i : ℕ) (d : FlowDescriptor) → i < length ds → d ≡ get_or ds i d →
    flow_objects before (drop i ds) ≡ flow_objects before (d ∷ []) ++ flow_objects (Some d.flowspec) (drop (i + 1) ds)
flow_left before ds i d within is = ap (flow_objects before) (drop_one ds i d within is) ∙ flow_split before d (drop (i + 1) ds)

pub error_left : (before : Option (List ℕ)) (es : List ErrorDescriptor) (i : ℕ) (e : ErrorDescriptor) → i < length es → e ≡ get_or es i e →
    error_objects before (drop i es) ≡ error_objects before (e ∷ []) ++ error_objects e.flowspec (drop (i + 1) es)
error_left before es i e within is = ap (error_objects before) (drop_one es i e within is) ∙ error_split before e (drop (i + 1) es)

pub mapped_left : {X : Type 0} (as_object : X → Object) (xs : List X) (i : ℕ) (x : X) → i < length xs → x ≡ get_or xs i x → map as_object (drop i xs) ≡ as_object x ∷ map as_object (drop (i + 1) xs)
mapped_left as_object xs i x within is = ap (map as_object) (drop_one xs i x within is)
