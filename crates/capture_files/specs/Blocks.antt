-- The blocks of a pcapng file (draft-ietf-opsawg-pcapng, 3.1): each a type 4, its whole length 4, a body, and its whole length
-- again 4.
use Rattle.std.specs.Prelude.{◌≡◌, ℕ, ◌+◌, ◌-◌, ◌%◌, ◌≤◌, ◌==◌, ◌||◌, not, nat_lt, if◌then◌else◌, Bool, List, length, take, drop, Option, Some, None}
use Rattle.std.specs.Option.{option_map_or}
use Rattle.byteorder.specs.Endian.{big_number}
use Rattle.capture_files.specs.declared.block.Block.{Block}
use Rattle.capture_files.specs.declared.endian.Endian.{Endian}
use Rattle.capture_files.specs.declared.endian.Endian.TheVariants.{Big, Little}
use Rattle.capture_files.specs.declared.fault.Damage.{Damage}
use Rattle.capture_files.specs.declared.fault.Damage.TheVariants as damages
use Rattle.capture_files.specs.Numbers.{field, number_in}

-- A section's header begins with 0a0d0d0a, which reads the same in both byte orders.
abbrev pub is_section : List ℕ → Bool
is_section bytes = big_number 4 bytes == 0x0a0d0d0a

-- After its length stands 1a2b3c4d, which tells the byte order of the section.
abbrev pub magic_order : List ℕ → Option Endian
magic_order bytes =
    if big_number 4 bytes == 0x1a2b3c4d then Some Big
    else if big_number 4 bytes == 0x4d3c2b1a then Some Little
    else None

-- the byte order of the first block, in a section of this one
abbrev pub order_in : Endian → List ℕ → Option Endian
order_in section bytes = if is_section bytes then magic_order (drop 8 bytes) else Some section

-- its whole length
abbrev pub block_len : Endian → List ℕ → ℕ
block_len endian bytes = field endian 4 4 bytes

-- The fault of its two lengths: they count whole words, no fewer than type and lengths take; the block ends within the
-- file; and both are the same.
unfoldable pub length_fault : Endian → List ℕ → Option Damage
length_fault endian bytes =
    if nat_lt (block_len endian bytes) 12 || not (block_len endian bytes % 4 == 0) then Some damages.Length
    else if nat_lt (length bytes) (block_len endian bytes) then Some damages.Short
    else if not (field endian (block_len endian bytes - 4) 4 bytes == block_len endian bytes) then Some damages.Length
    else None

-- The first fault of the first block, whatever its body says.
unfoldable pub frame_fault : Endian → List ℕ → Option Damage
frame_fault section bytes =
    if nat_lt (length bytes) 12 then Some damages.Short
    else option_map_or (λ endian. length_fault endian bytes) (order_in section bytes) (Some damages.Magic)

-- The first block, where it has no such fault.
pub record IsBlock (section : Endian) (bytes : List ℕ) (block : Block) : Type 0 where
  pub whole : frame_fault section bytes ≡ None
  pub order : order_in section bytes ≡ Some block.endian
  pub kind : block.kind ≡ number_in block.endian 4 bytes
  pub body : block.body.now ≡ take (block_len block.endian bytes - 12) (drop 8 bytes)
  pub len : 12 + length block.body.now ≡ block_len block.endian bytes
  pub fits : 12 + length block.body.now ≤ length bytes
