-- The parts of replies and of refusals.
use Rattle.std.specs.Prelude.{◌≡◌, ◌==◌, ◌∷◌, [], ℕ, List, Option, Some, None, Bool, T, true, false, cond, find, refl}
use Rattle.std.specs.Option.{unwrap_or}
use Rattle.std.proofs.Common.{ap, sym, subst, ◌∙◌, eqb→eq}
use Rattle.byteorder.specs.Endian.{big_bytes}
use Rattle.field_bytes.specs.Making.{IsToldApart, told_by}
use Rattle.field_bytes.specs.declared.cases.OneOf.{OneOf}
use Rattle.field_bytes.specs.declared.cases.OneOf.TheVariants.{This, Other}
use Rattle.lsr_facts.specs.Refusals.{number_of}
use Rattle.lsr_facts.specs.declared.errors.RsvpError.{RsvpError}
use Rattle.lsr_facts.specs.declared.refusal.Refusal.{Refusal}
use Rattle.lsr_facts.specs.declared.reply.Reply.{Reply}
use Rattle.lsr_facts.specs.declared.reply.Reply.TheVariants as replies
use Rattle.journal_files.specs.declared.replies.TheConstants.{REFUSALS}

-- the refusal of this number
abbrev pub refusal_by : ℕ → Option Refusal
refusal_by number = find (λ refusal. number_of refusal == number) REFUSALS

-- Its number names it. Two refusals have the number 40, and the one for events has it.
abbrev pub IsNamed : Refusal → Type 0
IsNamed refusal = refusal_by (number_of refusal) ≡ Some refusal

-- its number, in 1 byte
abbrev pub refusal_bytes : Refusal → List ℕ
refusal_bytes refusal = number_of refusal ∷ []

pub refusal_told : IsToldApart IsNamed number_of
refusal_told x y p q e = ap (λ (v : Option Refusal). unwrap_or v x) (sym p ∙ (ap refusal_by e ∙ q))

passes : (p : Refusal → Bool) (refusals : List Refusal) (refusal : Refusal) → find p refusals ≡ Some refusal → p refusal ≡ true
passes p [] refusal e = cc
passes p (r ∷ rs) refusal e =
    elim (p r) as (λ b. p r ≡ b → cond b (Some r) (find p rs) ≡ Some refusal → p refusal ≡ true) [
      | true ↦ λ t h. sym (ap p (ap (λ (v : Option Refusal). unwrap_or v r) h)) ∙ t
      | false ↦ λ _ h. passes p rs refusal h
    ] refl e

-- what a number names has it, and its number names it
pub named_by : (number : ℕ) (refusal : Refusal) → refusal_by number ≡ Some refusal → (number_of refusal ≡ number) × IsNamed refusal
named_by number refusal e =
    let same : number_of refusal ≡ number = eqb→eq (number_of refusal) number (subst T (sym (passes (λ r. number_of r == number) REFUSALS refusal e)) tt) in
    (same, ap refusal_by same ∙ e)

-- nothing has a number that names none
pub not_named : (number : ℕ) → refusal_by number ≡ None → (refusal : Refusal) → IsNamed refusal → number_of refusal ≡ number → ⊥
not_named number none refusal named same =
    let e : None ≡ Some refusal = sym none ∙ (sym (ap refusal_by same) ∙ named) in cc

-- What was answered: 0 where it was done; 1, an error's code and its value; or 2 and a refusal.
abbrev pub reply_bytes : Reply → List ℕ
reply_bytes replies.Done = 0 ∷ []
reply_bytes (replies.Error e) = 1 ∷ e.code ∷ big_bytes 2 e.value
reply_bytes (replies.Refused why) = 2 ∷ refusal_bytes why

abbrev pub ReplyOf : Type 0
ReplyOf = OneOf (Unit {0}) (OneOf (ℕ × ℕ) Refusal)

abbrev pub reply_parts : Reply → ReplyOf
reply_parts replies.Done = This tt
reply_parts (replies.Error e) = Other (This (e.code, e.value))
reply_parts (replies.Refused why) = Other (Other why)

-- the reply of these
abbrev pub reply_of : ReplyOf → Reply
reply_of (This nothing) = replies.Done
reply_of (Other (This parts)) = replies.Error (record { code = parts.0; value = parts.1 })
reply_of (Other (Other why)) = replies.Refused why

reply_again : (reply : Reply) → reply_of (reply_parts reply) ≡ reply
reply_again replies.Done = refl
reply_again (replies.Error e) = refl
reply_again (replies.Refused why) = refl

pub reply_told : IsToldApart (λ (r : Reply). Unit {0}) reply_parts
reply_told = told_by (λ (r : Reply). Unit {0}) reply_parts reply_of reply_again
