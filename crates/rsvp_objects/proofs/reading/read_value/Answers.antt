-- An arm that hands on another reader's value: what it spells is spelled under the kind.
use Rattle.std.proofs.Common.{subst}
use Rattle.rsvp_bodies.specs.Reading.{ReadsWhole}
use Rattle.rsvp_objects.specs.declared.kind.Kind.{Kind}
use Rattle.rsvp_objects.specs.declared.object.Object.TheVariants as objects
use Rattle.rsvp_bodies.specs.Attributes.{SpellsAttr}
use Rattle.rsvp_objects.specs.Objects.{SpellsAs}
use Rattle.rsvp_objects.proofs.Mapped.{reads_mapped}
use Rattle.rsvp_objects.proofs.reading.read_value.Goals as goal

pub returns-in-SessionAttribute : goal.returns-in-SessionAttribute
returns-in-SessionAttribute c =
    let P : Kind → Type 0 = λ k. ReadsWhole (λ body. SpellsAs k (record { class = c.args.class; ctype = c.args.ctype; body = body })) c.args.body.now c.map-in-SessionAttribute.result in
    subst P c.in-SessionAttribute.ensures (reads_mapped SpellsAttr (λ a. objects.SessionAttribute a) c.args.body.now c.read_attr.result c.map-in-SessionAttribute.result c.map-in-SessionAttribute.ensures.cases c.read_attr.ensures)
