-- A description of traffic says the rate that it was made for.
use Rattle.std.proofs.Common.{◌≡◌, ◌<◌, ◌^◌, ℕ, ◌++◌, Some, ap}
use Rattle.byteorder.specs.Endian.{big_bytes}
use Rattle.byteorder.specs.Numbers.{big_number-reads_back}
use Rattle.rsvp_bodies.specs.TokenBuckets.{has_shape, rate_word_of}
use Rattle.rsvp_bodies.specs.RateWords.{tspec_with}

pub rate_kept : (rate : ℕ) → rate < 2 ^ 32 → rate_word_of 1 (tspec_with rate) ≡ Some rate
unfolding rate_word_of has_shape
rate_kept rate fits = ap Some (big_number-reads_back 4 rate (big_bytes 4 rate ++ big_bytes 4 2139095040 ++ big_bytes 4 64 ++ big_bytes 4 1500) fits)
