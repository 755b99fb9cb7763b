-- What is known as the texts are read, one depth after the other.
use Rattle.std.specs.Prelude.{◌≡◌, ℕ, suc, ◌≤◌, ◌<◌, ◌⊎◌, List, true, length, None, Some, slice_get}
use Rattle.std.specs.Option.{IfSome}
use Rattle.std.specs.List.{Contains}
use Rattle.inf_ports.specs.Outside.{Told}
use Rattle.limbo_tree.specs.declared.source.Top.{Top}
use Rattle.limbo_includes.specs.declared.included.Included.{Included}
use Rattle.limbo_includes.specs.Includes.{tops_at, Given, Leads, most}
use Rattle.source_files.specs.Files.{AtPath, IsMissing}
use Rattle.source_files.specs.declared.fault.FilesFault.{FilesFault}
use Rattle.source_files.specs.declared.reader.Reader.{Reader}
use Rattle.source_files.specs.Reading.{targets, is_asked, depth_at, source_of, IsNamedBy, IsReachable, IsReading, Later}

-- All that a text of this depth names was asked for, and no text at such a path has a depth greater by more than one.
pub record IsDone (path : List ℕ) (tops : List Top) (depth : ℕ) (r : Reader) : Type 0 where
  pub asked : (q : List ℕ) → Contains (targets path tops) q → is_asked r q ≡ true
  pub near : (q : List ℕ) (i : ℕ) (t : Included) → Contains (targets path tops) q → slice_get r.texts.items i ≡ Some t → t.path ≡ q
      → depth_at r i ≤ suc depth

-- The given source is done, and so are the first of the texts, this many.
pub record IsDoneTo (first : List ℕ) (source : List Top) (count : ℕ) (r : Reader) : Type 0 where
  pub given : IsDone first source 0 r
  pub each : (i : ℕ) (t : Included) → i < count → slice_get r.texts.items i ≡ Some t → IsDone t.path t.tree.tops.items (depth_at r i) r

-- A text stands in the list at a path, or none is there.
abbrev pub IsSettled : Told → Reader → List ℕ → Type 0
IsSettled told r q = ((inner : List Top) × (tops_at r.texts.items q ≡ Some inner)) ⊎ IsMissing told q

-- What the texts of less than this depth name is settled.
pub record IsClear (told : Told) (first : List ℕ) (source : List Top) (depth : ℕ) (r : Reader) : Type 0 where
  pub given : (q : List ℕ) → 0 < depth → Contains (targets first source) q → IsSettled told r q
  pub each : (i : ℕ) (t : Included) (q : List ℕ) → slice_get r.texts.items i ≡ Some t → depth_at r i < depth
      → Contains (targets t.path t.tree.tops.items) q → IsSettled told r q

-- A text to which so many includes lead names the path.
pub record IsNamedAt (g : Given) (depth : ℕ) (q : List ℕ) : Type 0 where
  pub path : List ℕ
  pub tops : List Top
  pub leads : Leads g depth path tops
  pub named : Contains (targets path tops) q

-- A refusal of what a text names of less than this depth; what less deep ones name is settled.
pub record IsFirstKept (told : Told) (first : List ℕ) (source : List Top) (bound : ℕ) (r : Reader) (e : FilesFault) : Type 0 where
  pub depth : ℕ
  pub above : depth < bound
  pub clear : IsClear told first source depth r
  pub named : AtPath (IsNamedAt (source_of first source r) depth) e

-- All texts of less than this depth are done; those of this depth stand from here on.
pub record IsLevel (told : Told) (first : List ℕ) (source : List Top) (depth begin : ℕ) (r : Reader) : Type 0 where
  pub reading : IsReading told first source depth r
  pub blame : IfSome r.refused (IsFirstKept told first source depth r)
  pub done : IsDoneTo first source begin r
  pub last : (i : ℕ) (t : Included) → slice_get r.texts.items i ≡ Some t → begin ≤ i → depth_at r i ≡ depth

-- The same within a level: the texts that stand before the index are done; those of this depth end at `end`, and after them stand
-- those of the next depth.
pub record IsAmid (told : Told) (first : List ℕ) (source : List Top) (depth index end : ℕ) (r : Reader) : Type 0 where
  pub reading : IsReading told first source (suc depth) r
  pub blame : IfSome r.refused (IsFirstKept told first source (suc depth) r)
  pub done : IsDoneTo first source index r
  pub middle : (i : ℕ) (t : Included) → slice_get r.texts.items i ≡ Some t → index ≤ i → i < end → depth_at r i ≡ depth
  pub last : (i : ℕ) (t : Included) → slice_get r.texts.items i ≡ Some t → end ≤ i → depth_at r i ≡ suc depth

-- What a text of the depth before names was read.
pub record ReadsFrom (told : Told) (index depth : ℕ) (old new : Reader) : Type 0 where
  pub longer : length old.texts.items ≤ length new.texts.items
  pub firm : (e : FilesFault) → old.refused ≡ Some e → new.refused ≡ Some e
  pub fresh : old.refused ≡ None → IfSome new.refused (AtPath (IsNamedBy old index))
  pub reads :
      (first : List ℕ) (source : List Top) (t : Included) → slice_get old.texts.items index ≡ Some t → depth ≡ suc (depth_at old index)
      → IsReading told first source depth old
      → IsReading told first source depth new × Later depth old new × IsDone t.path t.tree.tops.items (depth_at old index) new

-- What the texts of the depth before name was read; those of this depth stand from `end` on.
pub record Raises (told : Told) (begin end depth : ℕ) (old new : Reader) : Type 0 where
  pub raises :
      (first : List ℕ) (source : List Top) (before : ℕ) → depth ≡ suc before → IsLevel told first source before begin old
      → IsLevel told first source depth end new

-- From the texts to which one include leads, all are read up to the deepest.
pub record ReadsAll (told : Told) (deepest : ℕ) (old new : Reader) : Type 0 where
  pub begin : ℕ
  pub reads :
      (first : List ℕ) (source : List Top) → IsLevel told first source 1 0 old → IsLevel told first source deepest begin new

-- The refusal that ends a level is of a text that includes lead to, where the level is none of the too deep.
abbrev pub RaisesTo : Told → ℕ → ℕ → Reader → FilesFault → Type 0
RaisesTo told begin depth old e =
    (first : List ℕ) (source : List Top) (before : ℕ) → depth ≡ suc before → depth ≤ most → IsLevel told first source before begin old
    → AtPath (IsReachable told first source) e

-- The refusal that ends the reading of all levels.
abbrev pub ReadsTo : Told → Reader → FilesFault → Type 0
ReadsTo told old e =
    (first : List ℕ) (source : List Top) → IsLevel told first source 1 0 old → AtPath (IsReachable told first source) e
