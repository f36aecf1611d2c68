use Rattle.std.proofs.Common.{◌≡◌, ℕ, List, Some, None, [], ◌∷◌, sym, ap, subst, ◌∙◌}
use Rattle.std.specs.FinMap.Entries.{find}
use Rattle.std.specs.Option.{option_map_or}
use Rattle.lsr_facts.specs.Orders.{key_cmp}
use Rattle.lsr_facts.specs.declared.key.Key.{Key}
use Rattle.label_space.specs.Bindings.{Bindings, by_label}
use Rattle.label_space.specs.Labels.{Labels, release}
use Rattle.label_space.specs.RestLaws.{rested_none}
use Rattle.label_space.specs.Rests.{held_by, rested}
use Rattle.label_space.proofs.Binding.{bound-release, but, but-absent, found_held, resting-release}
use Rattle.label_space.proofs.bindings.LabelBindings.release.Goals as goal

pub release-requires : goal.release-requires
release-requires c =
    let found : find key_cmp c.args.key c.self.inside.by_lsp ≡ Some c.in-Some.label = sym c.get.ensures.found ∙ sym c.copied.ensures ∙ c.in-Some.is in
    found_held c.self.inside.space c.self.inside.by_lsp c.self.invariant c.args.key c.in-Some.label found

pub invariant_of-self : goal.invariant_of-self
invariant_of-self c =
    let found : find key_cmp c.args.key c.self.inside.by_lsp ≡ Some c.in-Some.label = sym c.get.ensures.found ∙ sym c.copied.ensures ∙ c.in-Some.is in
    rw (c.release.ensures, c.remove.ensures) (bound-release c.self.inside.space c.self.inside.by_lsp c.self.invariant c.args.key c.in-Some.label c.args.until found)

pub returns-in-Some : goal.returns-in-Some
returns-in-Some c =
    let space = c.self.inside.space in
    let labels = c.self.inside.by_lsp in
    let key = c.args.key in
    let until = c.args.until in
    let found : find key_cmp key labels ≡ Some c.in-Some.label = sym c.get.ensures.found ∙ sym c.copied.ensures ∙ c.in-Some.is in
    ap (λ (s : Labels). record { range = s.range; moment = s.moment; labels = c.remove.new.self; resting = by_label s.resting }) c.release.ensures
    ∙ ap (λ (rows : List (Key × ℕ)). record { range = space.range; moment = space.moment; labels = rows; resting = by_label (release space c.in-Some.label until).resting }) c.remove.ensures
    ∙ ap (λ (resting : List (ℕ × ℕ)). record { range = space.range; moment = space.moment; labels = but key labels; resting = resting }) (resting-release space labels c.self.invariant key c.in-Some.label until found)
    ∙ ap (λ (b : Bindings). record { range = b.range; moment = b.moment; labels = but key b.labels; resting = rested b.moment until (held_by key b.labels) b.resting }) c.self.view_is

pub returns-in_default : goal.returns-in_default
returns-in_default c =
    let space = c.self.inside.space in
    let labels = c.self.inside.by_lsp in
    let key = c.args.key in
    let until = c.args.until in
    let none : find key_cmp key labels ≡ None = sym c.get.ensures.found ∙ sym c.copied.ensures ∙ c.in_default.is in
    let resting = ap (λ o. rested space.moment until (option_map_or (λ (label : ℕ). label ∷ []) o []) (by_label space.resting)) none ∙ rested_none space.moment until (by_label space.resting) in
    subst (λ (b : Bindings). b ≡ record { range = b.range; moment = b.moment; labels = but key b.labels; resting = rested b.moment until (held_by key b.labels) b.resting }) c.self.view_is
    (λ i. record { range = space.range; moment = space.moment; labels = sym (but-absent space labels c.self.invariant key none) i; resting = sym resting i })
