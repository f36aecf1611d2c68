-- What holds of reservations, part by part.
use Rattle.std.proofs.Common.{refl, subst, sym}
use Rattle.std.specs.List.{AllByRecursion}
use Rattle.abstract_router.specs.Soundness.{IsResv}
use Rattle.plain_soundness.proofs.soundness.are_held.Goals as goal

pub returns-then-not-is_within : goal.returns-then-not-is_within
returns-then-not-is_within c =
    (λ passes. absurd (let e = passes in cc), λ held. absurd (let e = c.in_ok-is_within.ensures.1 held.within in let not = c.if-not-is_within.true in cc))

pub returns-then-not-holds_of_all : goal.returns-then-not-holds_of_all
returns-then-not-holds_of_all c =
    let each = AllByRecursion (IsResv c.args.known.now.state.now.facts.moment) in (
      λ passes. absurd (let e = passes in cc),
      λ held. absurd (let e = c.holds_of_all.ensures.1 (subst each (sym c.as_slice-rows.ensures.rows) held.each) in let not = c.if-not-holds_of_all.true in cc),
    )

pub returns : goal.returns
returns c =
    let each = AllByRecursion (IsResv c.args.known.now.state.now.facts.moment) in (
      λ passes. record {
        in_order = c.as_slice-rows.ensures.sorted;
        each = subst each c.as_slice-rows.ensures.rows (c.if-not-holds_of_all.ensures.0 refl);
        one_style = c.are_of_one_style.ensures.0 passes;
        within = c.in_ok-is_within.ensures.0 c.if-not-is_within.false;
      },
      λ held. c.are_of_one_style.ensures.1 held.one_style,
    )
