-- Resource affinities: three words, by offsets, and how they are written.
use Rattle.std.specs.Prelude.{ℕ, List, ◌<◌, ◌^◌, ◌++◌, drop}
use Rattle.byteorder.specs.Endian.{big_number, big_bytes}
use Rattle.rsvp_bodies.specs.declared.affinities.Affinities.{Affinities}

-- Exclude-any, include-any, include-all (RFC 3209, 4.7.2)
abbrev pub affinities_at : List ℕ → Affinities
affinities_at body =
    record {
      exclude_any = big_number 4 body;
      include_any = big_number 4 (drop 4 body);
      include_all = big_number 4 (drop 8 body);
    }

-- the three words, as they are written
abbrev pub affinities_body : Affinities → List ℕ
affinities_body a = big_bytes 4 a.exclude_any ++ (big_bytes 4 a.include_any ++ big_bytes 4 a.include_all)

-- the numbers fit
pub record IsAffinities (a : Affinities) : Type 0 where
  pub exclude_any : a.exclude_any < 2 ^ 32
  pub include_any : a.include_any < 2 ^ 32
  pub include_all : a.include_all < 2 ^ 32
