-- What is known while the row of all declarations is laid out.
use Rattle.std.specs.Prelude.{◌≡◌, ◌≢◌, ℕ, ◌==◌, if◌then◌else◌, List, [], ◌∷◌, ◌++◌, length, Some, slice_get, slice_index_or}
use Rattle.std.specs.List.{Contains}
use Rattle.limbo_tree.specs.declared.source.Top.{Top}
use Rattle.limbo_includes.specs.declared.included.Included.{Included}
use Rattle.limbo_includes.specs.declared.fault.IncludeFault.{IncludeFault}
use Rattle.limbo_includes.specs.declared.fault.IncludeFault.TheVariants as fault
use Rattle.limbo_includes.specs.declared.row.Seen.{Seen}
use Rattle.limbo_includes.specs.declared.row.Seen.TheVariants as seen
use Rattle.limbo_includes.specs.declared.row.Row.{Row}
use Rattle.limbo_includes.specs.Includes.{Given, Leads, IsTooDeep, LacksAt, Standing, Flattens, IsDoubled}
use Rattle.limbo_includes.specs.View.{view_row}

-- The text stands in the row, and declares something.
pub record StandsIn (included : List Included) (t : Included) (row : List Standing) : Type 0 where
  pub front : List Standing
  pub inner : List Standing
  pub back : List Standing
  pub flat : Flattens included t.path t.tree.tops.items inner
  pub declares : inner ≢ []
  pub parts : row ≡ front ++ inner ++ back

-- What a mark says of a text.
abbrev pub IsSeen : List Included → Included → List Standing → Seen → Type 0
IsSeen included t row seen.NotYet = Unit {0}
IsSeen included t row seen.Empty = Flattens included t.path t.tree.tops.items []
IsSeen included t row seen.Full = StandsIn included t row

-- the mark of a text, by how many declarations stood in the row before it and stand there now
abbrev pub mark_of : ℕ → ℕ → Seen
mark_of before now = if now == before then seen.Empty else seen.Full

-- Each text is marked as it stands in the row.
pub record AreSeen (included : List Included) (row : Row) : Type 0 where
  pub same_length : length row.seen.items ≡ length included
  pub each :
      (n : ℕ) (t : Included) → slice_get included n ≡ Some t
      → IsSeen included t (view_row row.out.items) (slice_index_or row.seen.items n seen.NotYet)

-- Declarations were laid out behind what there was.
pub record IsLaid (included : List Included) (path : List ℕ) (tops : List Top) (old new : Row) : Type 0 where
  pub inner : List Standing
  pub flat : Flattens included path tops inner
  pub parts : view_row new.out.items ≡ view_row old.out.items ++ inner
  pub seen : AreSeen included new

-- The same, where each text was marked as it stood.
abbrev pub Lays : List Included → List ℕ → List Top → Row → Row → Type 0
Lays included path tops old new = AreSeen included old → IsLaid included path tops old new

-- A source that leads to a text by so many includes.
abbrev pub source_of : List ℕ → List Top → List Included → Given
source_of path source included = record { path = path; source = source; included = included }

-- What a refusal says, while these declarations of a text are laid out behind a row; so many includes lead to the whole text.
abbrev pub Blames : List Included → ℕ → List ℕ → List Top → List Top → Row → IncludeFault → Type 0
Blames included depth path whole tops row fault.NoMemory = Unit {0}
Blames included depth path whole tops row (fault.NoInclude p at) =
    (first : List ℕ) (source : List Top)
    → Leads (source_of first source included) depth path whole → LacksAt (source_of first source included) p at
Blames included depth path whole tops row (fault.Twice p at) =
    AreSeen included row → (all : List Standing) → Flattens included path tops all → IsDoubled included (view_row row.out.items ++ all)
Blames included depth path whole tops row fault.TooDeep =
    (first : List ℕ) (source : List Top)
    → Leads (source_of first source included) depth path whole → IsTooDeep (source_of first source included)

-- The same of one declaration, in whatever text it stands.
abbrev pub BlamesAt : List Included → ℕ → List ℕ → Top → Row → IncludeFault → Type 0
BlamesAt included depth path top row e = (whole : List Top) → Contains whole top → Blames included depth path whole (top ∷ []) row e
