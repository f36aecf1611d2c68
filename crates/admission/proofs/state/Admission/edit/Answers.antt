use Rattle.std.proofs.Common.{◌≡◌, ℕ, T, ap, reverse, subst, sym, ◌∙◌}
use Rattle.std.proofs.lemmas.List.{reverse-reverse}
use Rattle.std.specs.FinMap.Entries.{is_sorted}
use Rattle.std.specs.Option.{option_map}
use Rattle.lsr_facts.specs.Orders.{key_cmp}
use Rattle.sorted_rows.specs.Edits.{edited}
use Rattle.sorted_rows.specs.InTurn.{given, in_turn}
use Rattle.lsr_facts.specs.Claims.{claim_of}
use Rattle.lsr_facts.specs.declared.resv_fact.ResvFact.{ResvFact}
use Rattle.admission.specs.Bandwidths.{AreEdits, Bandwidth, claim_edits, resv_edits}
use Rattle.admission.proofs.Editing.{passes_by}
use Rattle.admission.proofs.state.Admission.edit.Goals as goal
use Rattle.admission.proofs.state.Admission.edit.Goals.{After-take}

-- the reservations after both passes
given_resvs : (c : After-take) → in_turn (given key_cmp) (resv_edits (reverse c.reverse.new.self.items)) c.take.new.self.resvs ≡ edited key_cmp (resv_edits c.args.edits) c.args.self.now.resvs
given_resvs c =
    let sorted = subst (λ (b : Bandwidth). T (is_sorted key_cmp b.resvs)) c.self.view_is c.rows_are_in_order.ensures.sorted in
    passes_by (option_map (λ (given : ResvFact × ℕ). given.0)) c.args.edits c.into_rows-edits.result.items c.reverse.new.self.items c.deref.result.now c.args.self.now.resvs c.take.new.self.resvs c.into_rows-edits.ensures.rows c.reverse.ensures.items c.deref.ensures.value c.take.ensures.resvs c.into_rows-edits.ensures.sorted sorted

-- and what they take
given_claims : (c : After-take) → in_turn (given key_cmp) (claim_edits (reverse c.reverse.new.self.items)) c.take.new.self.claims ≡ edited key_cmp (claim_edits c.args.edits) c.args.self.now.claims
given_claims c =
    let sorted = subst (λ (b : Bandwidth). T (is_sorted key_cmp b.claims)) c.self.view_is c.rows_are_in_order-2.ensures.sorted in
    passes_by (option_map (λ (given : ResvFact × ℕ). claim_of given.0 given.1)) c.args.edits c.into_rows-edits.result.items c.reverse.new.self.items c.deref.result.now c.args.self.now.claims c.take.new.self.claims c.into_rows-edits.ensures.rows c.reverse.ensures.items c.deref.ensures.value c.take.ensures.claims c.into_rows-edits.ensures.sorted sorted

pub give-requires-clause-room : goal.give-requires-clause-room
give-requires-clause-room c = rw (given_resvs ((goal.at.give-requires-clause-room c).After-take)) c.requires.room

-- what is given is what the caller handed in, backwards
pub give-requires-clause-edits : goal.give-requires-clause-edits
give-requires-clause-edits c =
    subst AreEdits (sym (ap reverse (c.reverse.ensures.items ∙ ap reverse c.into_rows-edits.ensures.rows) ∙ reverse-reverse c.args.edits)) c.requires.edits

pub returns : goal.returns
returns c =
    let resvs = c.give.ensures.resvs ∙ given_resvs ((goal.at.returns c).After-take) in
    let claims = c.give.ensures.claims ∙ given_claims ((goal.at.returns c).After-take) in
    let limits = c.give.ensures.limits ∙ c.take.ensures.limits in
    λ i. record { resvs = resvs i; claims = claims i; limits = limits i }
