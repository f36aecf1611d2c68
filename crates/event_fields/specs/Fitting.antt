-- The numbers of an event that can be are within the widths of its fields.
use Rattle.std.proofs.Common.{◌≡◌, ◌<◌, ◌≤◌, ◌+◌, ◌^◌, ◌++◌, ◌∷◌, [], ℕ, Bool, List, length, Option, Some, None, refl, ap, arith, lit<}
use Rattle.std.specs.Prelude.{IfSome}
use Rattle.std.specs.List.{AllByRecursion, flat_map}
use Rattle.std.specs.declared.net.ipv4_addr.Ipv4Addr.{Ipv4Addr}
use Rattle.std.specs.Net.Addr.{ipv4_octets}
use Rattle.std.proofs.lemmas.List.{length-append}
use Rattle.field_bytes.specs.CaseLaws.{BothFit, both_tag, no_tag}
use Rattle.field_bytes.specs.declared.cases.OneOf.{OneOf}
use Rattle.field_bytes.specs.Making.{MadeFits}
use Rattle.field_bytes.specs.OptionLaws.{OptionFits}
use Rattle.field_bytes.specs.PairLaws.{PairFits}
use Rattle.field_bytes.specs.Spelling.{IsCountable, ListFits}
use Rattle.rsvp_bodies.specs.Affinities.{IsAffinities}
use Rattle.rsvp_bodies.specs.Attributes.{attr_ctype}
use Rattle.rsvp_bodies.specs.Steps.{step_bytes as written_step}
use Rattle.rsvp_bodies.specs.declared.affinities.Affinities.{Affinities}
use Rattle.rsvp_bodies.specs.declared.attr.Attr.{Attr}
use Rattle.rsvp_bodies.specs.declared.prefix.Prefix.{Prefix}
use Rattle.rsvp_bodies.specs.declared.step.Step.{Step}
use Rattle.rsvp_bodies.specs.declared.step.Step.TheVariants as steps
use Rattle.rsvp_objects.specs.declared.values.FastReroute.{FastReroute}
use Rattle.abstract_paths.specs.Events.{IsAskedAttr, IsCommand, IsNewBypass, IsNewTunnel, IsPrefix, IsProtection, IsRoute, IsStep, IsTunnelChange}
use Rattle.abstract_paths.specs.declared.commands.Command.{Command}
use Rattle.abstract_paths.specs.declared.commands.Command.TheVariants as commands
use Rattle.abstract_paths.specs.declared.tunnels.NewTunnel.{NewTunnel}
use Rattle.abstract_paths.specs.declared.tunnels.TunnelChange.{TunnelChange}
use Rattle.abstract_paths.specs.declared.tunnels.NewBypass.{NewBypass}
use Rattle.body_fields.specs.Attributes.{HasName, affinities_parts, attr_parts, ctype_with, words_of}
use Rattle.body_fields.specs.Prefixes.{prefix_parts}
use Rattle.body_fields.specs.Protection.{protection_parts}
use Rattle.body_fields.specs.Routes.{FitsRoute, same_route}
use Rattle.body_fields.specs.Steps.{IsKeptStep, step_parts}
use Rattle.body_fields.specs.Traffic.{IsTraffic, same_traffic}
use Rattle.event_fields.specs.Commands.{AnyCommand, CommandParts, command_parts}
use Rattle.event_fields.specs.Tunnels.{bypass_parts, change_parts, tunnel_parts}

abbrev pub IsByte : ℕ → Type 0
IsByte n = n < 2 ^ 8

abbrev pub IsShort : ℕ → Type 0
IsShort n = n < 2 ^ 16

abbrev pub IsWord : ℕ → Type 0
IsWord n = n < 2 ^ 32

abbrev pub IsLong : ℕ → Type 0
IsLong n = n < 2 ^ 64

abbrev pub HasOctets : Ipv4Addr → Type 0
HasOctets a = length (ipv4_octets a) ≡ 4

-- ---- routes

abbrev pub PrefixFits : Prefix → Type 0
PrefixFits = MadeFits (λ _. Unit {0}) prefix_parts (PairFits HasOctets IsByte)

abbrev pub StepFits : Step → Type 0
StepFits = MadeFits IsKeptStep step_parts (BothFit 1 no_tag (PairFits (λ (loose : Bool). Unit {0}) PrefixFits) (λ (bytes : List ℕ). IsCountable bytes))

abbrev pub RouteFits : List Step → Type 0
RouteFits = MadeFits FitsRoute same_route (ListFits StepFits)

prefix_fits : (p : Prefix) → IsPrefix p → PrefixFits p
prefix_fits p is = (tt, (is.address, is.bits))

step_fits : (step : Step) → length (written_step step) ≤ 65528 → IsStep step → StepFits step
step_fits (steps.Ipv4 loose prefix) short is = (tt, (lit< tt, (tt, prefix_fits prefix is)))
step_fits (steps.Other bytes) short is = (is, omega (arith, short))

step_long : (step : Step) → IsStep step → 1 ≤ length (written_step step)
step_long (steps.Ipv4 loose prefix) is = omega arith
step_long (steps.Other bytes) is = omega (arith, is.subobject.at_least)

steps_fit : (route : List Step) → length (flat_map written_step route) ≤ 65528 → AllByRecursion IsStep route → AllByRecursion StepFits route
steps_fit [] short all = tt
steps_fit (step ∷ route) short all =
    let sum = length-append (written_step step) (flat_map written_step route) in
    (step_fits step (omega (arith, sum, short)) all.0, steps_fit route (omega (arith, sum, short)) all.1)

few_steps : (route : List Step) → AllByRecursion IsStep route → length route ≤ length (flat_map written_step route)
few_steps [] all = omega arith
few_steps (step ∷ route) all =
    let sum = length-append (written_step step) (flat_map written_step route) in
    let others = few_steps route all.1 in
    omega (arith, sum, others, step_long step all.0)

route_fits : (route : List Step) → IsRoute route → RouteFits route
route_fits route is = (is.fits, (omega (arith, few_steps route is.each, is.fits), steps_fit route is.fits is.each))

-- ---- attributes and protection

abbrev pub AffinitiesFit : Affinities → Type 0
AffinitiesFit = MadeFits (λ _. Unit {0}) affinities_parts (PairFits IsWord (PairFits IsWord IsWord))

abbrev pub AttrFits : Attr → Type 0
AttrFits = MadeFits HasName attr_parts
    (PairFits IsByte (PairFits AffinitiesFit (PairFits IsByte (PairFits IsByte (PairFits IsByte (λ (bytes : List ℕ). IsCountable bytes))))))

words_fit : (affinities : Option Affinities) → IfSome affinities IsAffinities → AffinitiesFit (words_of affinities)
words_fit None is = (tt, (lit< tt, (lit< tt, lit< tt)))
words_fit (Some words) is = (tt, (is.exclude_any, (is.include_any, is.include_all)))

ctype_fits : (affinities : Option Affinities) → ctype_with affinities < 2 ^ 8
ctype_fits None = lit< tt
ctype_fits (Some words) = lit< tt

attr_fits : (a : Attr) → IsAskedAttr a → AttrFits a
attr_fits a is =
    (is.fits.name, (ctype_fits a.affinities, (words_fit a.affinities is.fits.affinities, (is.setup, (is.hold, (is.flags, omega (arith, is.fits.name)))))))

abbrev pub ProtectionFits : FastReroute → Type 0
ProtectionFits = MadeFits (λ _. Unit {0}) protection_parts
    (PairFits IsByte (PairFits IsByte (PairFits IsByte (PairFits IsByte (PairFits IsWord (PairFits IsWord (PairFits IsWord IsWord)))))))

protection_fits : (protection : Option FastReroute) → IfSome protection IsProtection → OptionFits ProtectionFits protection
protection_fits None is = tt
protection_fits (Some f) is =
    let sets = is.fits.affinities in
    (tt, (is.setup, (is.hold, (is.hop_limit, (is.flags, (is.fits.bandwidth, (sets.include_any, (sets.exclude_any, sets.include_all))))))))

-- ---- commands

abbrev pub TrafficFits : List ℕ → Type 0
TrafficFits = MadeFits IsTraffic same_traffic (λ (bytes : List ℕ). length bytes ≡ 32)

abbrev pub TunnelFits : NewTunnel → Type 0
TunnelFits = MadeFits (λ _. Unit {0}) tunnel_parts
    (PairFits IsShort (PairFits HasOctets (PairFits RouteFits (PairFits TrafficFits (PairFits AttrFits (OptionFits ProtectionFits))))))

abbrev pub ChangeFits : TunnelChange → Type 0
ChangeFits = MadeFits (λ _. Unit {0}) change_parts (PairFits IsShort (PairFits RouteFits TrafficFits))

abbrev pub BypassFits : NewBypass → Type 0
BypassFits = MadeFits (λ _. Unit {0}) bypass_parts (PairFits IsShort (PairFits IsShort (PairFits IsShort IsLong)))

tunnel_fits : (t : NewTunnel) → IsNewTunnel t → TunnelFits t
tunnel_fits t is =
    (tt, (is.number, (is.endpoint, (route_fits t.route is.route, ((is.whole_tspec, is.whole_tspec), (attr_fits t.attr is.attr, protection_fits t.fast_reroute is.protection))))))

change_fits : (c : TunnelChange) → IsTunnelChange c → ChangeFits c
change_fits c is = (tt, (is.number, (route_fits c.route is.route, (is.whole_tspec, is.whole_tspec))))

bypass_fits : (b : NewBypass) → IsNewBypass b → BypassFits b
bypass_fits b is = (tt, (is.number, (is.tunnel, (is.link, is.capacity))))

-- the numbers of kinds by twos and by fours
abbrev pub two_tag : {A B : Type 0} → OneOf A B → ℕ
two_tag x = both_tag 1 no_tag no_tag x

abbrev pub four_tag : {A B C D : Type 0} → OneOf (OneOf A B) (OneOf C D) → ℕ
four_tag x = both_tag 2 two_tag two_tag x

abbrev pub eight_tag : {A B C D E F G H : Type 0} → OneOf (OneOf (OneOf A B) (OneOf C D)) (OneOf (OneOf E F) (OneOf G H)) → ℕ
eight_tag x = both_tag 4 four_tag four_tag x

-- values of two, of four and of eight kinds that have a spelling
abbrev pub TwoFit : {A B : Type 0} → (A → Type 0) → (B → Type 0) → OneOf A B → Type 0
TwoFit A B = BothFit 1 no_tag A B

abbrev pub FourFit : {A B C D : Type 0} → (OneOf A B → Type 0) → (OneOf C D → Type 0) → OneOf (OneOf A B) (OneOf C D) → Type 0
FourFit L R = BothFit 2 two_tag L R

abbrev pub EightFit : {A B C D E F G H : Type 0} → (OneOf (OneOf A B) (OneOf C D) → Type 0) → (OneOf (OneOf E F) (OneOf G H) → Type 0) →
    OneOf (OneOf (OneOf A B) (OneOf C D)) (OneOf (OneOf E F) (OneOf G H)) → Type 0
EightFit L R = BothFit 4 four_tag L R

abbrev pub CommandPartsFit : CommandParts → Type 0
CommandPartsFit = EightFit (FourFit (TwoFit TunnelFits ChangeFits) (TwoFit IsShort IsShort)) (FourFit (TwoFit BypassFits IsShort) (TwoFit (PairFits PrefixFits IsShort) PrefixFits))

abbrev pub CommandFits : Command → Type 0
CommandFits = MadeFits AnyCommand command_parts CommandPartsFit

pub command_fits : (c : Command) → IsCommand c → CommandFits c
command_fits (commands.AddTunnel t) is = (tt, (lit< tt, (lit< tt, (lit< tt, tunnel_fits t is))))
command_fits (commands.ChangeTunnel c) is = (tt, (lit< tt, (lit< tt, change_fits c is)))
command_fits (commands.CancelChange n) is = (tt, (lit< tt, (lit< tt, is)))
command_fits (commands.DropTunnel n) is = (tt, (lit< tt, is))
command_fits (commands.AddBypass b) is = (tt, (lit< tt, (lit< tt, bypass_fits b is)))
command_fits (commands.DropBypass n) is = (tt, (lit< tt, is))
command_fits (commands.AddRoute p n) is = (tt, (lit< tt, (prefix_fits p is.0, is.1)))
command_fits (commands.DropRoute p) is = (tt, prefix_fits p is)
