-- No bytes begin with two values of a kind.
use Rattle.std.specs.Prelude.{◌≡◌, ◌<◌, ◌^◌, ◌++◌, ◌∷◌, [], ℕ, Bool, List, length, refl}
use Rattle.std.specs.Net.Addr.{ipv4_octets}
use Rattle.std.specs.Int.{to_be_bytes, w16, w32, w64}
use Rattle.field_bytes.specs.CaseLaws.{BothFit, IsOneCase, both_fields, both_tag, choice_bytes, no_tag, one_both, one_choice, one_only}
use Rattle.field_bytes.specs.ListLaws.{one_exactly, one_list, one_octets}
use Rattle.field_bytes.specs.Making.{one_made}
use Rattle.field_bytes.specs.NumberLaws.{flag_byte, one_address, one_byte, one_flag, one_long, one_short, one_word}
use Rattle.field_bytes.specs.OptionLaws.{OptionFits, one_option, option_bytes}
use Rattle.field_bytes.specs.PairLaws.{PairFits, one_pair, pair_bytes}
use Rattle.field_bytes.specs.Spelling.{IsCountable, IsOne, ListFits, list_bytes, octet_bytes}
use Rattle.field_bytes.specs.declared.cases.OneOf.{OneOf}
use Rattle.rsvp_bodies.specs.Affinities.{affinities_body}
use Rattle.rsvp_bodies.specs.declared.prefix.Prefix.{Prefix}
use Rattle.rsvp_bodies.specs.declared.step.Step.{Step}
use Rattle.rsvp_bodies.specs.declared.step.Step.TheVariants as steps
use Rattle.rsvp_objects.specs.Values.{fast_reroute_body}
use Rattle.journal_bytes.specs.Events.{attr_bytes, bypass_bytes, change_bytes, prefix_bytes, route_bytes, step_bytes, tunnel_bytes}
use Rattle.body_fields.specs.Attributes.{HasName, affinities_parts, affinities_told, attr_parts, attr_spelled, attr_told}
use Rattle.body_fields.specs.Prefixes.{prefix_parts, prefix_told}
use Rattle.body_fields.specs.Protection.{protection_parts, protection_told}
use Rattle.body_fields.specs.Routes.{FitsRoute, same_route}
use Rattle.body_fields.specs.Steps.{IsKeptStep, step_parts, step_told}
use Rattle.body_fields.specs.Traffic.{IsTraffic, same_traffic}
use Rattle.abstract_paths.specs.declared.commands.Command.{Command}
use Rattle.abstract_paths.specs.declared.commands.Command.TheVariants as commands
use Rattle.event_fields.specs.Commands.{AnyCommand, CommandParts, command_bytes, command_parts, command_told}
use Rattle.event_fields.specs.Fitting.{AffinitiesFit, AttrFits, BypassFits, ChangeFits, CommandFits, CommandPartsFit, FourFit, HasOctets, IsByte, IsLong, IsShort, IsWord, PrefixFits, ProtectionFits, RouteFits, StepFits, TrafficFits, TunnelFits, TwoFit, eight_tag, four_tag, two_tag}
use Rattle.event_fields.specs.Tunnels.{bypass_parts, bypass_told, change_parts, change_told, tunnel_parts, tunnel_spelled, tunnel_told}

abbrev pub byte_bytes : ℕ → List ℕ
byte_bytes n = n ∷ []

abbrev pub short_bytes : ℕ → List ℕ
short_bytes n = to_be_bytes w16 n

abbrev pub word_bytes : ℕ → List ℕ
word_bytes n = to_be_bytes w32 n

abbrev pub long_bytes : ℕ → List ℕ
long_bytes n = to_be_bytes w64 n

abbrev pub flag_bytes : Bool → List ℕ
flag_bytes flag = flag_byte flag ∷ []

abbrev pub IsAny : {A : Type 0} → A → Type 0
IsAny x = Unit {0}

abbrev pub Counts : List ℕ → Type 0
Counts bytes = IsCountable bytes

pub one_prefix : IsOne PrefixFits prefix_bytes
one_prefix = one_made IsAny prefix_parts prefix_bytes (PairFits HasOctets IsByte) (pair_bytes ipv4_octets byte_bytes) prefix_told (λ p. refl)
    (one_pair HasOctets IsByte ipv4_octets byte_bytes one_address one_byte)

-- ---- routes

abbrev ipv4_step_bytes : Bool × Prefix → List ℕ
ipv4_step_bytes x = pair_bytes flag_bytes prefix_bytes x

abbrev step_fields : OneOf (Bool × Prefix) (List ℕ) → List ℕ
step_fields x = both_fields ipv4_step_bytes octet_bytes x

step_spelled : (step : Step) → step_bytes step ≡ choice_bytes 1 two_tag step_fields (step_parts step)
step_spelled (steps.Ipv4 loose prefix) = refl
step_spelled (steps.Other bytes) = refl

one_step_case : IsOneCase (TwoFit (PairFits IsAny PrefixFits) Counts) two_tag step_fields
one_step_case = one_both 1 (PairFits IsAny PrefixFits) Counts no_tag no_tag ipv4_step_bytes octet_bytes
    (one_only (PairFits IsAny PrefixFits) ipv4_step_bytes (one_pair IsAny PrefixFits flag_bytes prefix_bytes one_flag one_prefix))
    (one_only Counts octet_bytes one_octets)

one_step : IsOne StepFits step_bytes
one_step = one_made IsKeptStep step_parts step_bytes (TwoFit (PairFits IsAny PrefixFits) Counts) (choice_bytes 1 two_tag step_fields) step_told step_spelled
    (one_choice 1 (TwoFit (PairFits IsAny PrefixFits) Counts) two_tag step_fields one_step_case)

pub one_route : IsOne RouteFits route_bytes
one_route = one_made FitsRoute same_route route_bytes (ListFits StepFits) (list_bytes step_bytes) (λ x y _ _ e. e) (λ r. refl) (one_list StepFits step_bytes one_step)

-- ---- attributes, protection and traffic

one_affinities : IsOne AffinitiesFit affinities_body
one_affinities = one_made IsAny affinities_parts affinities_body (PairFits IsWord (PairFits IsWord IsWord)) (pair_bytes word_bytes (pair_bytes word_bytes word_bytes)) affinities_told (λ a. refl)
    (one_pair IsWord (PairFits IsWord IsWord) word_bytes (pair_bytes word_bytes word_bytes) one_word (one_pair IsWord IsWord word_bytes word_bytes one_word one_word))

abbrev NameFits : ℕ × List ℕ → Type 0
NameFits = PairFits IsByte Counts

abbrev name_bytes : ℕ × List ℕ → List ℕ
name_bytes x = pair_bytes byte_bytes octet_bytes x

one_name : IsOne NameFits name_bytes
one_name = one_pair IsByte Counts byte_bytes octet_bytes one_byte one_octets

pub one_attr : IsOne AttrFits attr_bytes
one_attr = one_made HasName attr_parts attr_bytes
    (PairFits IsByte (PairFits AffinitiesFit (PairFits IsByte (PairFits IsByte NameFits))))
    (pair_bytes byte_bytes (pair_bytes affinities_body (pair_bytes byte_bytes (pair_bytes byte_bytes name_bytes))))
    attr_told attr_spelled
    (one_pair IsByte (PairFits AffinitiesFit (PairFits IsByte (PairFits IsByte NameFits))) byte_bytes (pair_bytes affinities_body (pair_bytes byte_bytes (pair_bytes byte_bytes name_bytes))) one_byte
    (one_pair AffinitiesFit (PairFits IsByte (PairFits IsByte NameFits)) affinities_body (pair_bytes byte_bytes (pair_bytes byte_bytes name_bytes)) one_affinities
    (one_pair IsByte (PairFits IsByte NameFits) byte_bytes (pair_bytes byte_bytes name_bytes) one_byte
    (one_pair IsByte NameFits byte_bytes name_bytes one_byte one_name))))

abbrev SetsFit : ℕ × (ℕ × (ℕ × ℕ)) → Type 0
SetsFit = PairFits IsWord (PairFits IsWord (PairFits IsWord IsWord))

abbrev set_bytes : ℕ × (ℕ × (ℕ × ℕ)) → List ℕ
set_bytes x = pair_bytes word_bytes (pair_bytes word_bytes (pair_bytes word_bytes word_bytes)) x

one_sets : IsOne SetsFit set_bytes
one_sets = one_pair IsWord (PairFits IsWord (PairFits IsWord IsWord)) word_bytes (pair_bytes word_bytes (pair_bytes word_bytes word_bytes)) one_word
    (one_pair IsWord (PairFits IsWord IsWord) word_bytes (pair_bytes word_bytes word_bytes) one_word (one_pair IsWord IsWord word_bytes word_bytes one_word one_word))

pub one_protection : IsOne ProtectionFits fast_reroute_body
one_protection = one_made IsAny protection_parts fast_reroute_body
    (PairFits IsByte (PairFits IsByte (PairFits IsByte (PairFits IsByte SetsFit))))
    (pair_bytes byte_bytes (pair_bytes byte_bytes (pair_bytes byte_bytes (pair_bytes byte_bytes set_bytes))))
    protection_told (λ f. refl)
    (one_pair IsByte (PairFits IsByte (PairFits IsByte (PairFits IsByte SetsFit))) byte_bytes (pair_bytes byte_bytes (pair_bytes byte_bytes (pair_bytes byte_bytes set_bytes))) one_byte
    (one_pair IsByte (PairFits IsByte (PairFits IsByte SetsFit)) byte_bytes (pair_bytes byte_bytes (pair_bytes byte_bytes set_bytes)) one_byte
    (one_pair IsByte (PairFits IsByte SetsFit) byte_bytes (pair_bytes byte_bytes set_bytes) one_byte
    (one_pair IsByte SetsFit byte_bytes set_bytes one_byte one_sets))))

pub one_traffic : IsOne TrafficFits same_traffic
one_traffic = one_made IsTraffic same_traffic same_traffic (λ (bytes : List ℕ). length bytes ≡ 32) (λ bytes. bytes) (λ x y _ _ e. e) (λ bytes. refl) (one_exactly 32)

-- ---- tunnels

pub one_tunnel : IsOne TunnelFits tunnel_bytes
one_tunnel = one_made IsAny tunnel_parts tunnel_bytes
    (PairFits IsShort (PairFits HasOctets (PairFits RouteFits (PairFits TrafficFits (PairFits AttrFits (OptionFits ProtectionFits))))))
    (pair_bytes short_bytes (pair_bytes ipv4_octets (pair_bytes route_bytes (pair_bytes same_traffic (pair_bytes attr_bytes (option_bytes fast_reroute_body))))))
    tunnel_told tunnel_spelled
    (one_pair IsShort (PairFits HasOctets (PairFits RouteFits (PairFits TrafficFits (PairFits AttrFits (OptionFits ProtectionFits))))) short_bytes
    (pair_bytes ipv4_octets (pair_bytes route_bytes (pair_bytes same_traffic (pair_bytes attr_bytes (option_bytes fast_reroute_body))))) one_short
    (one_pair HasOctets (PairFits RouteFits (PairFits TrafficFits (PairFits AttrFits (OptionFits ProtectionFits)))) ipv4_octets
    (pair_bytes route_bytes (pair_bytes same_traffic (pair_bytes attr_bytes (option_bytes fast_reroute_body)))) one_address
    (one_pair RouteFits (PairFits TrafficFits (PairFits AttrFits (OptionFits ProtectionFits))) route_bytes
    (pair_bytes same_traffic (pair_bytes attr_bytes (option_bytes fast_reroute_body))) one_route
    (one_pair TrafficFits (PairFits AttrFits (OptionFits ProtectionFits)) same_traffic (pair_bytes attr_bytes (option_bytes fast_reroute_body)) one_traffic
    (one_pair AttrFits (OptionFits ProtectionFits) attr_bytes (option_bytes fast_reroute_body) one_attr (one_option ProtectionFits fast_reroute_body one_protection))))))

pub one_change : IsOne ChangeFits change_bytes
one_change = one_made IsAny change_parts change_bytes (PairFits IsShort (PairFits RouteFits TrafficFits)) (pair_bytes short_bytes (pair_bytes route_bytes same_traffic)) change_told (λ c. refl)
    (one_pair IsShort (PairFits RouteFits TrafficFits) short_bytes (pair_bytes route_bytes same_traffic) one_short
    (one_pair RouteFits TrafficFits route_bytes same_traffic one_route one_traffic))

pub one_bypass : IsOne BypassFits bypass_bytes
one_bypass = one_made IsAny bypass_parts bypass_bytes (PairFits IsShort (PairFits IsShort (PairFits IsShort IsLong))) (pair_bytes short_bytes (pair_bytes short_bytes (pair_bytes short_bytes long_bytes))) bypass_told (λ b. refl)
    (one_pair IsShort (PairFits IsShort (PairFits IsShort IsLong)) short_bytes (pair_bytes short_bytes (pair_bytes short_bytes long_bytes)) one_short
    (one_pair IsShort (PairFits IsShort IsLong) short_bytes (pair_bytes short_bytes long_bytes) one_short
    (one_pair IsShort IsLong short_bytes long_bytes one_short one_long)))

-- ---- values of several kinds

-- of two kinds
pub one_two : {A B : Type 0} (First : A → Type 0) (Second : B → Type 0) (first : A → List ℕ) (second : B → List ℕ) → IsOne First first → IsOne Second second →
    IsOneCase (TwoFit First Second) two_tag (both_fields first second)
one_two First Second first second a b = one_both 1 First Second no_tag no_tag first second (one_only First first a) (one_only Second second b)

-- of four
pub one_four : {A B C D : Type 0} (L : OneOf A B → Type 0) (R : OneOf C D → Type 0) (l : OneOf A B → List ℕ) (r : OneOf C D → List ℕ) →
    IsOneCase L two_tag l → IsOneCase R two_tag r → IsOneCase (FourFit L R) four_tag (both_fields l r)
one_four L R l r a b = one_both 2 L R two_tag two_tag l r a b

-- ---- commands

abbrev pub command_route_bytes : Prefix × ℕ → List ℕ
command_route_bytes x = pair_bytes prefix_bytes short_bytes x

abbrev pub command_fields_by : CommandParts → List ℕ
command_fields_by = both_fields
    (both_fields (both_fields tunnel_bytes change_bytes) (both_fields short_bytes short_bytes))
    (both_fields (both_fields bypass_bytes short_bytes) (both_fields command_route_bytes prefix_bytes))

pub command_spelled : (c : Command) → command_bytes c ≡ choice_bytes 1 eight_tag command_fields_by (command_parts c)
command_spelled (commands.AddTunnel t) = refl
command_spelled (commands.ChangeTunnel c) = refl
command_spelled (commands.CancelChange n) = refl
command_spelled (commands.DropTunnel n) = refl
command_spelled (commands.AddBypass b) = refl
command_spelled (commands.DropBypass n) = refl
command_spelled (commands.AddRoute p n) = refl
command_spelled (commands.DropRoute p) = refl

one_command_case : IsOneCase CommandPartsFit eight_tag command_fields_by
one_command_case =
    one_both 4 (FourFit (TwoFit TunnelFits ChangeFits) (TwoFit IsShort IsShort)) (FourFit (TwoFit BypassFits IsShort) (TwoFit (PairFits PrefixFits IsShort) PrefixFits)) four_tag four_tag
    (both_fields (both_fields tunnel_bytes change_bytes) (both_fields short_bytes short_bytes))
    (both_fields (both_fields bypass_bytes short_bytes) (both_fields command_route_bytes prefix_bytes))
    (one_four (TwoFit TunnelFits ChangeFits) (TwoFit IsShort IsShort) (both_fields tunnel_bytes change_bytes) (both_fields short_bytes short_bytes)
    (one_two TunnelFits ChangeFits tunnel_bytes change_bytes one_tunnel one_change)
    (one_two IsShort IsShort short_bytes short_bytes one_short one_short))
    (one_four (TwoFit BypassFits IsShort) (TwoFit (PairFits PrefixFits IsShort) PrefixFits) (both_fields bypass_bytes short_bytes) (both_fields command_route_bytes prefix_bytes)
    (one_two BypassFits IsShort bypass_bytes short_bytes one_bypass one_short)
    (one_two (PairFits PrefixFits IsShort) PrefixFits command_route_bytes prefix_bytes (one_pair PrefixFits IsShort prefix_bytes short_bytes one_prefix one_short) one_prefix))

pub one_command : IsOne CommandFits command_bytes
one_command = one_made AnyCommand command_parts command_bytes CommandPartsFit (choice_bytes 1 eight_tag command_fields_by) command_told command_spelled
    (one_choice 1 CommandPartsFit eight_tag command_fields_by one_command_case)
