-- What is known while the files are read.
use Rattle.std.specs.Prelude.{◌++◌, ◌≡◌, ◌⊎◌, ℕ, suc, ◌≤◌, ◌<◌, Bool, true, false}
use Rattle.std.specs.Prelude.{not, List, [], ◌∷◌, length, IsSome, None, Some, slice_get, slice_index_or}
use Rattle.std.specs.Option.{IfSome}
use Rattle.std.specs.List.{Contains}
use Rattle.std.specs.Ordering.{nat_cmp}
use Rattle.std.specs.Cmp.Lexicographic.{slice_cmp}
use Rattle.std.specs.BTreeSet.{contains}
use Rattle.inf_ports.specs.Outside.{Told}
use Rattle.limbo_tree.specs.declared.source.Source.{Source}
use Rattle.limbo_tree.specs.declared.source.Top.{Top}
use Rattle.limbo_tree.specs.declared.source.Top.TheVariants.{Include, Declare, Define}
use Rattle.limbo_tree.specs.View.{view_source}
use Rattle.limbo_includes.specs.declared.included.Included.{Included}
use Rattle.limbo_includes.specs.Includes.{target, tops_at, Given, Leads, most}
use Rattle.source_files.specs.declared.reader.Reader.{Reader}
use Rattle.source_files.specs.Files.{IsMissing, IsSpelled, IsBlamed, IsRefusal, AtPath}
use Rattle.source_files.specs.declared.fault.FilesFault.{FilesFault}

-- The paths of the texts that includes name, in order.
abbrev pub targets : List ℕ → List Top → List (List ℕ)
targets path [] = []
targets path (Include name at ∷ tops) = target path name ∷ targets path tops
targets path (Declare decl ∷ tops) = targets path tops
targets path (Define function ∷ tops) = targets path tops

-- An entry is led to by so many includes at most, and is what stands at its path.
pub record IsRead (told : Told) (g : Given) (t : Included) : Type 0 where
  pub depth : ℕ
  pub shallow : depth ≤ most
  pub leads : Leads g depth t.path t.tree.tops.items
  pub spelled : IsSpelled told t.path (view_source t.tree)

-- Each include names an entry, or a path at which no text stands, if it stands in a text to which fewer includes than this lead.
abbrev pub IsReadTo : ℕ → Told → Given → Type 0
IsReadTo depth told g =
    (n : ℕ) (path : List ℕ) (tops : List Top) (q : List ℕ) → Leads g n path tops → n < depth → Contains (targets path tops) q
    → ((inner : List Top) × (tops_at g.included q ≡ Some inner)) ⊎ IsMissing told q

-- So does each that doesn't stand too deep.
abbrev pub IsReadWhole : Told → Given → Type 0
IsReadWhole = IsReadTo most

-- An include names this path, in a text to which fewer includes than this lead.
pub record IsReached (g : Given) (most_above : ℕ) (q : List ℕ) : Type 0 where
  pub depth : ℕ
  pub path : List ℕ
  pub tops : List Top
  pub leads : Leads g depth path tops
  pub above : depth < most_above
  pub named : Contains (targets path tops) q

-- An include names this path, in a text to which fewer than the most includes lead, through texts that were read.
pub record IsReachable (told : Told) (first : List ℕ) (source : List Top) (q : List ℕ) : Type 0 where
  pub included : List Included
  pub read : (t : Included) → Contains included t → IsRead told (record { path = first; source = source; included = included }) t
  pub reached : IsReached (record { path = first; source = source; included = included }) most q

-- The same; and what the texts name to which fewer includes lead was read, or is missing: none of it is refused.
pub record IsFirst (told : Told) (first : List ℕ) (source : List Top) (q : List ℕ) : Type 0 where
  pub included : List Included
  pub read : (t : Included) → Contains included t → IsRead told (record { path = first; source = source; included = included }) t
  pub reached : IsReached (record { path = first; source = source; included = included }) most q
  pub whole : IsReadTo reached.depth told (record { path = first; source = source; included = included })

-- No path has two texts.
abbrev pub IsReadOnce : List Included → Type 0
IsReadOnce texts =
    (i j : ℕ) (t u : Included) → slice_get texts i ≡ Some t → slice_get texts j ≡ Some u → t.path ≡ u.path → i ≡ j

-- ---- the reader

abbrev pub is_asked : Reader → List ℕ → Bool
is_asked r path = contains (slice_cmp nat_cmp) r.asked path

abbrev pub depth_at : Reader → ℕ → ℕ
depth_at r i = slice_index_or r.depths.items i 0

abbrev pub source_of : List ℕ → List Top → Reader → Given
source_of first source r = record { path = first; source = source; included = r.texts.items }

-- A text that was read, with its depth.
pub record IsEntry (told : Told) (first : List ℕ) (source : List Top) (r : Reader) (i : ℕ) (t : Included) : Type 0 where
  pub leads : Leads (source_of first source r) (depth_at r i) t.path t.tree.tops.items
  pub spelled : IsSpelled told t.path (view_source t.tree)
  pub asked : is_asked r t.path ≡ true

-- A path that was asked for is answered: its text was read, or is missing, or some text was refused.
abbrev pub IsAnswered : Told → Reader → List ℕ → Type 0
IsAnswered told r path = IsSome r.refused ⊎ (((inner : List Top) × (tops_at r.texts.items path ≡ Some inner)) ⊎ IsMissing told path)

-- A refusal of a text that was asked for.
abbrev pub IsOfAsked : Reader → FilesFault → Type 0
IsOfAsked r e = AtPath (λ p. is_asked r p ≡ true) e

-- The text with this number names the path.
abbrev pub IsNamedBy : Reader → ℕ → List ℕ → Type 0
IsNamedBy r i q = (t : Included) × (slice_get r.texts.items i ≡ Some t) × Contains (targets t.path t.tree.tops.items) q

pub record IsReading (told : Told) (first : List ℕ) (source : List Top) (bound : ℕ) (r : Reader) : Type 0 where
  pub same_length : length r.depths.items ≡ length r.texts.items
  pub bounded : (i : ℕ) → depth_at r i ≤ bound
  pub entry : (i : ℕ) (t : Included) → slice_get r.texts.items i ≡ Some t → IsEntry told first source r i t
  pub once : IsReadOnce r.texts.items
  pub answered : (path : List ℕ) → is_asked r path ≡ true → IsAnswered told r path
  pub reached : (path : List ℕ) → is_asked r path ≡ true → IsReached (source_of first source r) bound path
  pub blamed : IfSome r.refused (λ e. IsBlamed told e)
  pub owned : IfSome r.refused (IsOfAsked r)

-- The same entry.
pub record IsKept (old new : Reader) (i : ℕ) (t : Included) : Type 0 where
  pub there : slice_get new.texts.items i ≡ Some t
  pub depth : depth_at new i ≡ depth_at old i

-- A new one, which was not asked for before.
pub record IsNew (depth : ℕ) (old new : Reader) (i : ℕ) (t : Included) : Type 0 where
  pub fresh : is_asked old t.path ≡ false
  pub at_depth : depth_at new i ≡ depth
  pub behind : length old.texts.items ≤ i

-- Entries of this depth were added.
pub record Later (depth : ℕ) (old new : Reader) : Type 0 where
  pub asked : (path : List ℕ) → is_asked old path ≡ true → is_asked new path ≡ true
  pub kept : (i : ℕ) (t : Included) → slice_get old.texts.items i ≡ Some t → IsKept old new i t
  pub each : (i : ℕ) (t : Included) → slice_get new.texts.items i ≡ Some t → IsKept new old i t ⊎ IsNew depth old new i t
  pub tops : (path : List ℕ) (inner : List Top) → tops_at old.texts.items path ≡ Some inner → tops_at new.texts.items path ≡ Some inner

-- What a path that is asked for changes: it was asked for, or is missing, or its text is refused; or its text is new.
pub data Settles (told : Told) (path : List ℕ) (depth : ℕ) (old new : Reader) : Type 0 where
  stays : new.texts.items ≡ old.texts.items → new.depths.items ≡ old.depths.items
      → (is_asked old path ≡ true) ⊎ (IsSome new.refused ⊎ IsMissing told path) → Settles told path depth old new
  grows : (tree : Source) → is_asked old path ≡ false
      → new.texts.items ≡ old.texts.items ++ record { path = path; tree = tree } ∷ []
      → new.depths.items ≡ old.depths.items ++ depth ∷ []
      → IsSpelled told path (view_source tree) → Settles told path depth old new

pub record Asks (told : Told) (path : List ℕ) (depth : ℕ) (old new : Reader) : Type 0 where
  pub asks : is_asked new path ≡ true
  pub mono : (q : List ℕ) → is_asked old q ≡ true → is_asked new q ≡ true
  pub only : (q : List ℕ) → is_asked new q ≡ true → (is_asked old q ≡ true) ⊎ (q ≡ path)
  pub settled : Settles told path depth old new
  pub refused : IsSome old.refused → IsSome new.refused
  pub blamed : IfSome old.refused (λ e. IsBlamed told e) → IfSome new.refused (λ e. IsBlamed told e)
  pub owned : IfSome old.refused (IsOfAsked old) → IfSome new.refused (IsOfAsked new)
  pub firm : (e : FilesFault) → old.refused ≡ Some e → new.refused ≡ Some e
  pub fresh : old.refused ≡ None → IfSome new.refused (AtPath (λ p. p ≡ path))

-- The same of several paths, which one text names.
pub record AsksAll (told : Told) (named : List (List ℕ)) (depth : ℕ) (old new : Reader) : Type 0 where
  pub longer : length old.texts.items ≤ length new.texts.items
  pub asks : (q : List ℕ) → Contains named q → is_asked new q ≡ true
  pub firm : (e : FilesFault) → old.refused ≡ Some e → new.refused ≡ Some e
  pub fresh : old.refused ≡ None → IfSome new.refused (AtPath (Contains named))
  pub reading :
      (first : List ℕ) (source : List Top) (n : ℕ) (path : List ℕ) (tops : List Top)
      → Leads (source_of first source old) n path tops → depth ≡ suc n
      → ((q : List ℕ) → Contains named q → Contains (targets path tops) q)
      → IsReading told first source depth old → IsReading told first source depth new × Later depth old new

-- A text is added.
pub record Adds (t : Included) (depth : ℕ) (old new : Reader) : Type 0 where
  pub texts : new.texts.items ≡ old.texts.items ++ t ∷ []
  pub depths : new.depths.items ≡ old.depths.items ++ depth ∷ []
  pub asked : new.asked ≡ old.asked
  pub refused : new.refused ≡ old.refused

-- A refusal of a text is kept, if it is the first.
pub record Keeps (f : FilesFault) (old new : Reader) : Type 0 where
  pub texts : new.texts ≡ old.texts
  pub depths : new.depths ≡ old.depths
  pub asked : new.asked ≡ old.asked
  pub some : IsSome new.refused
  pub blamed : (told : Told) (before now : ℕ) → IsRefusal told before now f
      → IfSome old.refused (λ e. IsBlamed told e) → IfSome new.refused (λ e. IsBlamed told e)
  pub owned : IsOfAsked old f → IfSome old.refused (IsOfAsked old) → IfSome new.refused (IsOfAsked new)
  pub firm : (e : FilesFault) → old.refused ≡ Some e → new.refused ≡ Some e
  pub fresh : old.refused ≡ None → new.refused ≡ Some f

-- A path is asked for: it is new, or was asked for before.
pub record Marks (path : List ℕ) (fresh : Bool) (old new : Reader) : Type 0 where
  pub texts : new.texts ≡ old.texts
  pub depths : new.depths ≡ old.depths
  pub refused : new.refused ≡ old.refused
  pub asks : is_asked new path ≡ true
  pub mono : (q : List ℕ) → is_asked old q ≡ true → is_asked new q ≡ true
  pub only : (q : List ℕ) → is_asked new q ≡ true → (is_asked old q ≡ true) ⊎ (q ≡ path)
  pub before : is_asked old path ≡ not fresh
