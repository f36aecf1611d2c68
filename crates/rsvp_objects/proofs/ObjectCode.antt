-- Objects are spelled so that a reader knows where each ends and which it is.
use Rattle.std.proofs.Common.{◌≡◌, ℕ, List, [], ◌++◌, Some, refl, sym, ap, ◌∙◌, subst}
use Rattle.rsvp_bodies.proofs.Sequences.{IsCode, SpellsEach-unique}
use Rattle.rsvp_bodies.specs.declared.step.Step.{Step}
use Rattle.rsvp_bodies.specs.declared.trace.Trace.{Trace}
use Rattle.rsvp_bodies.proofs.RouteCodes.{step_code, trace_code}
use Rattle.rsvp_objects.specs.declared.kind.Kind.{Kind}
use Rattle.rsvp_objects.specs.declared.kind.Kind.TheVariants as kinds
use Rattle.rsvp_objects.specs.declared.object.Object.{Object}
use Rattle.rsvp_objects.specs.declared.object.Object.TheVariants as objects
use Rattle.rsvp_bodies.specs.declared.attr.Attr.{Attr}
use Rattle.rsvp_objects.specs.Raw.{Raw, object_bytes}
use Rattle.rsvp_objects.specs.Kinds.{kind_of}
use Rattle.rsvp_objects.specs.Framing.{frame_in}
use Rattle.rsvp_objects.specs.Objects.{SpellsAs, SpellsObject}
use Rattle.rsvp_objects.proofs.Frames.{frame_again}

-- a body says one thing under a kind
one_value : (kind : Kind) (raw : Raw) (a b : Object) → SpellsAs kind raw a → SpellsAs kind raw b → a ≡ b
one_value kinds.Session raw a b s t = s.1 ∙ sym t.1
one_value kinds.Hop raw a b s t = s.1 ∙ sym t.1
one_value kinds.TimeValues raw a b s t = s.1 ∙ sym t.1
one_value kinds.ErrorSpec raw a b s t = s.1 ∙ sym t.1
one_value kinds.Style raw a b s t = s.1 ∙ sym t.1
one_value kinds.Flowspec raw a b s t = s ∙ sym t
one_value kinds.FilterSpec raw a b s t = s.1 ∙ sym t.1
one_value kinds.SenderTemplate raw a b s t = s.1 ∙ sym t.1
one_value kinds.SenderTspec raw a b s t = s ∙ sym t
one_value kinds.Label raw a b s t = s.1 ∙ sym t.1
one_value kinds.LabelRequest raw a b s t = s.1 ∙ sym t.1
one_value kinds.ExplicitRoute raw a b s t =
    s.2 ∙ ap (λ (r : List Step). objects.ExplicitRoute r) (SpellsEach-unique step_code raw.body s.0 t.0 s.1 t.1) ∙ sym t.2
one_value kinds.RecordRoute raw a b s t =
    s.2 ∙ ap (λ (r : List Trace). objects.RecordRoute r) (SpellsEach-unique trace_code raw.body s.0 t.0 s.1 t.1) ∙ sym t.2
one_value kinds.FastReroute raw a b s t = s.1 ∙ sym t.1
one_value kinds.SessionAttribute raw a b s t = s.2 ∙ ap (λ (x : Attr). objects.SessionAttribute x) (s.1.1 ∙ sym t.1.1) ∙ sym t.2
one_value kinds.SessionAttributeRa raw a b s t = s.2 ∙ ap (λ (x : Attr). objects.SessionAttribute x) (s.1.2 ∙ sym t.1.2) ∙ sym t.2
one_value kinds.Null raw a b s t = s ∙ sym t
one_value kinds.Integrity raw a b s t = s ∙ sym t
one_value kinds.Scope raw a b s t = s ∙ sym t
one_value kinds.Adspec raw a b s t = s ∙ sym t
one_value kinds.PolicyData raw a b s t = s ∙ sym t
one_value kinds.ResvConfirm raw a b s t = s ∙ sym t
one_value kinds.Unlisted raw a b s t = s ∙ sym t
one_value (kinds.Unknown treatment) raw a b s t = s ∙ sym t

-- what stands at the front of some bytes is one frame
same_frame : (first rest other behind : List ℕ) (a b : Object) → first ++ rest ≡ other ++ behind → (s : SpellsObject first a) (t : SpellsObject other b) → s.raw ≡ t.raw
same_frame first rest other behind a b e s t =
    let front : frame_in (first ++ rest) ≡ Some s.raw = ap (λ (bytes : List ℕ). frame_in (bytes ++ rest)) s.framed ∙ frame_again s.raw rest s.is_raw in
    let back : frame_in (other ++ behind) ≡ Some t.raw = ap (λ (bytes : List ℕ). frame_in (bytes ++ behind)) t.framed ∙ frame_again t.raw behind t.is_raw in
    let both : Some s.raw ≡ Some t.raw = sym front ∙ ap frame_in e ∙ back in
    cc

pub one_object_lem : (first rest other behind : List ℕ) (a b : Object) → first ++ rest ≡ other ++ behind → SpellsObject first a → SpellsObject other b → (first ≡ other) × (a ≡ b)
one_object_lem first rest other behind a b e s t =
    let same = same_frame first rest other behind a b e s t in (
      s.framed ∙ ap object_bytes same ∙ sym t.framed,
      one_value (kind_of t.raw.class t.raw.ctype) t.raw a b (subst (λ (raw : Raw). SpellsAs (kind_of raw.class raw.ctype) raw a) same s.value) t.value,
    )

-- no object is spelled by no bytes
not_empty : (a : Object) → SpellsObject [] a → ⊥
not_empty a s = let e = s.framed in absurd cc

pub object_code : IsCode SpellsObject
object_code = record {
  not_empty = not_empty;
  one_end = λ first rest other behind a b e s t. (one_object_lem first rest other behind a b e s t).0;
  one_value = λ bytes a b s t. (one_object_lem bytes [] bytes [] a b refl s t).1;
}
