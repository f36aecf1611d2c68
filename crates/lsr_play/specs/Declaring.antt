-- What lines declare before the first move: the routers of a world, by name, and its wires.
use Rattle.std.specs.Prelude.{◌≡◌, ◌<◌, ◌⊎◌, ◌++◌, ◌∷◌, ◌&&◌, ℕ, nat_lt, List, [], Bool, Option, Some, None, bytes_eq, if◌then◌else◌, length, slice_get}
use Rattle.std.specs.List.{position_or_len}
use Rattle.std.specs.Option.{option_map_or}
use Rattle.abstract_world.specs.declared.joint.Joint.{Joint}
use Rattle.world_lines.specs.Lines.{SaysLine}
use Rattle.world_lines.specs.declared.lines.Wire.{Wire}
use Rattle.world_lines.specs.declared.lines.WorldLine.{WorldLine}
use Rattle.world_lines.specs.declared.lines.WorldLine.TheVariants as lines
use denote.Ref.{Bor}

-- the names of routers, each by its place, as they stand in the text, and wires
pub record Declaration : Type 0 where
  pub names : List (Bor (List ℕ))
  pub joints : List Joint

-- before the first line
abbrev pub nothing : Declaration
nothing = record { names = []; joints = [] }

-- the place of the router of this name; that behind the last router where none has it
abbrev pub place_of : List (Bor (List ℕ)) → List ℕ → ℕ
place_of names name = position_or_len (λ (known : Bor (List ℕ)). bytes_eq known.now name) names

-- the name of the router of this place; no letter where there is none
abbrev pub name_at : List (Bor (List ℕ)) → ℕ → List ℕ
name_at names place = option_map_or (λ (name : Bor (List ℕ)). name.now) (slice_get names place) []

-- whether there is a router of this name
abbrev pub is_declared : List (Bor (List ℕ)) → List ℕ → Bool
is_declared names name = nat_lt (place_of names name) (length names)

-- a wire between routers that are declared
abbrev pub joint_of : List (Bor (List ℕ)) → Wire → Option Joint
joint_of names w =
    if is_declared names w.name.now && is_declared names w.other.now
    then Some (record {
      one = record { router = place_of names w.name.now; link = w.link };
      other = record { router = place_of names w.other.now; link = w.other_link };
    })
    else None

-- the declaration with this wire, too
abbrev pub joined : Declaration → Option Joint → Option Declaration
joined d None = None
joined d (Some joint) = Some (record d { joints = d.joints ++ joint ∷ [] })

-- What is declared with what a line says: a router of a new name, or a wire between routers that are declared. Else the line
-- declares nothing.
abbrev pub declared_by : Declaration → WorldLine → Option Declaration
declared_by d (lines.Router name file) = if is_declared d.names name.now then None else Some (record d { names = d.names ++ name ∷ [] })
declared_by d (lines.Wire wire) = joined d (joint_of d.names wire)
declared_by d (lines.Deliver number) = None
declared_by d (lines.Repeat number) = None
declared_by d (lines.At name act) = None

-- a line that declares something
abbrev pub Declares : Declaration → List ℕ → Declaration → Type 0
Declares before line after = (said : WorldLine) × SaysLine line said × (declared_by before said ≡ Some after)

-- a line that says nothing
abbrev pub SaysNothing : List ℕ → Type 0
SaysNothing line = (said : WorldLine) → SaysLine line said → ⊥

-- a line that declares nothing
abbrev pub DeclaresNothing : Declaration → List ℕ → Type 0
DeclaresNothing d line = SaysNothing line ⊎ ((said : WorldLine) × SaysLine line said × (declared_by d said ≡ None))

-- lines that declare, one after the other
abbrev pub AreDeclared : Declaration → List (List ℕ) → Declaration → Type 0
AreDeclared before [] after = after ≡ before
AreDeclared before (line ∷ more) after = (between : Declaration) × Declares before line between × AreDeclared between more after

-- no line is left, or the first one declares nothing
abbrev pub EndsDeclaring : Declaration → List (List ℕ) → Type 0
EndsDeclaring d [] = Unit {0}
EndsDeclaring d (line ∷ more) = DeclaresNothing d line
