-- Flow descriptors are read one by one.
use Rattle.std.proofs.Common.{◌≡◌, ◌+◌, ℕ, List, [], ◌∷◌, ◌++◌, Option, Some, None, refl, sym, ap, ◌∙◌, append_assoc}
use Rattle.std.specs.Option.{option_map}
use Rattle.rsvp_objects.specs.declared.values.Label.{Label}
use Rattle.rsvp_objects.specs.declared.values.Template.{Template}
use Rattle.rsvp_objects.specs.declared.object.Object.{Object}
use Rattle.rsvp_objects.specs.declared.object.Object.TheVariants as objects
use Rattle.rsvp_contents.specs.declared.descriptors.FlowDescriptor.{FlowDescriptor}
use Rattle.rsvp_contents.specs.Firsts.{counting, labelled}
use Rattle.rsvp_contents.specs.Flows.{flows_of, with_flow}

-- what was found, and what the rest says
abbrev pub and_rest : Option (FlowDescriptor × List Object) → Option (List FlowDescriptor)
and_rest None = None
and_rest (Some r) = with_flow r.0 (flows_of (Some r.0.flowspec) r.1)

-- the first by the FLOWSPEC that counts, if one does
abbrev pub first_by : Option (List ℕ) × List Object → Option (FlowDescriptor × List Object)
first_by (None, os) = None
first_by (Some f, os) = labelled f os

-- where a FLOWSPEC counts
labelled_rest : (f : List ℕ) (o : Object) (os : List Object) → first_by (counting (Some f) (o ∷ os)) ≡ first_by (counting (Some f) (o ∷ os)) → flows_of (Some f) (o ∷ os) ≡ and_rest (first_by (counting (Some f) (o ∷ os)))
labelled_rest f (objects.Flowspec g) (objects.FilterSpec t ∷ objects.Label l ∷ objects.RecordRoute r ∷ os) e = refl
labelled_rest f (objects.Flowspec g) (objects.FilterSpec t ∷ objects.Label l ∷ os) e = refl
labelled_rest f (objects.FilterSpec t) (objects.Label l ∷ objects.RecordRoute r ∷ os) e = refl
labelled_rest f (objects.FilterSpec t) (objects.Label l ∷ os) e = refl
labelled_rest f o os e = refl

-- objects say the first, and those that the rest says
pub one_by_one : (before : Option (List ℕ)) (o : Object) (os : List Object) → flows_of before (o ∷ os) ≡ and_rest (first_by (counting before (o ∷ os)))
one_by_one None (objects.Flowspec g) (objects.FilterSpec t ∷ objects.Label l ∷ objects.RecordRoute r ∷ os) = refl
one_by_one None (objects.Flowspec g) (objects.FilterSpec t ∷ objects.Label l ∷ os) = refl
one_by_one None o os = refl
one_by_one (Some f) o os = labelled_rest f o os refl

-- the FLOWSPEC that counts is the descriptor's
labelled_keeps : (f : List ℕ) (os after : List Object) (d : FlowDescriptor) → Some (d, after) ≡ labelled f os → d.flowspec ≡ f
labelled_keeps f (objects.FilterSpec t ∷ objects.Label l ∷ objects.RecordRoute r ∷ os) after d e = let same : ◌≡◌ {A = FlowDescriptor × List Object} (d, after) (record { flowspec = f; filter = t; label = l; recorded = Some r }, os) = cc in ap (λ (p : FlowDescriptor × List Object). p.0.flowspec) same
labelled_keeps f (objects.FilterSpec t ∷ objects.Label l ∷ os) after d e = labelled_bare f t l os after d e
  where
    labelled_bare : (f : List ℕ) (t : Template) (l : Label) (os after : List Object) (d : FlowDescriptor) → Some (d, after) ≡ labelled f (objects.FilterSpec t ∷ objects.Label l ∷ os) → d.flowspec ≡ f
    labelled_bare f t l (objects.RecordRoute r ∷ os) after d e = let same : ◌≡◌ {A = FlowDescriptor × List Object} (d, after) (record { flowspec = f; filter = t; label = l; recorded = Some r }, os) = cc in ap (λ (p : FlowDescriptor × List Object). p.0.flowspec) same
    labelled_bare f t l os after d e = let same : ◌≡◌ {A = FlowDescriptor × List Object} (d, after) (record { flowspec = f; filter = t; label = l; recorded = None }, os) = cc in ap (λ (p : FlowDescriptor × List Object). p.0.flowspec) same
labelled_keeps f os after d e = absurd cc

-- one more stands behind those that were found
behind_found : (found : List FlowDescriptor) (d : FlowDescriptor) (o : Option (List FlowDescriptor)) → option_map (λ ds. found ++ ds) (with_flow d o) ≡ option_map (λ ds. (found ++ d ∷ []) ++ ds) o
behind_found found d None = refl
behind_found found d (Some ds) = ap (λ (v : List FlowDescriptor). Some v) (sym (append_assoc found (d ∷ []) ds))

-- what objects say by their first descriptor
by_first : (before : Option (List ℕ)) (rest : List Object) (f : List ℕ) (behind after : List Object) (d : FlowDescriptor) → (rest ≡ [] → ⊥) → ◌≡◌ {A = Option (List ℕ) × List Object} (Some f, behind) (counting before rest) → Some (d, after) ≡ labelled f behind →
    flows_of before rest ≡ with_flow d (flows_of (Some f) after)
by_first before [] f behind after d left counts first = absurd (left refl)
by_first before (o ∷ os) f behind after d left counts first =
    one_by_one before o os ∙ ap (λ (p : Option (List ℕ) × List Object). and_rest (first_by p)) (sym counts) ∙ ap and_rest (sym first)
    ∙ ap (λ (g : List ℕ). with_flow d (flows_of (Some g) after)) (labelled_keeps f behind after d first)

-- one more descriptor was found
pub goes_on : (all : Option (List FlowDescriptor)) (before : Option (List ℕ)) (rest : List Object) (f : List ℕ) (behind after : List Object) (d : FlowDescriptor) (found new : List FlowDescriptor) →
    (rest ≡ [] → ⊥) → ◌≡◌ {A = Option (List ℕ) × List Object} (Some f, behind) (counting before rest) → Some (d, after) ≡ labelled f behind → new ≡ found ++ d ∷ [] →
    all ≡ option_map (λ ds. found ++ ds) (flows_of before rest) → all ≡ option_map (λ ds. new ++ ds) (flows_of (Some f) after)
goes_on all before rest f behind after d found new left counts first more so =
    so ∙ ap (option_map (λ (ds : List FlowDescriptor). found ++ ds)) (by_first before rest f behind after d left counts first) ∙ behind_found found d (flows_of (Some f) after)
    ∙ ap (λ (v : List FlowDescriptor). option_map (λ ds. v ++ ds) (flows_of (Some f) after)) (sym more)
