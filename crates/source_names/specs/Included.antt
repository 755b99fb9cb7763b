-- The texts that a source includes, by what the files tell (Limbo Language Reference, include).
use Rattle.std.specs.Prelude.{◌≡◌, ◌≢◌, ◌<◌, ◌⊎◌, ℕ, zero, suc, List, [], ◌∷◌, ◌++◌, Bool, true, false, None, Some}
use Rattle.std.specs.List.{Contains}
use Rattle.inf_ports.specs.Outside.{Told}
use Rattle.limbo_tree.specs.Sources.{Source, Top, Include, Declared, Defined}
use Rattle.limbo_includes.specs.Includes.{target, most}
use Rattle.limbo_top.specs.Tops.{Placed}
use Rattle.source_files.specs.Files.{IsSpelled, IsMissing}

-- What so many includes, one in the other, lead to from a source: a text's path, and what stands in it.
pub data Leads (told : Told) (first : List ℕ) (source : List Top) : ℕ → List ℕ → List Top → Type 0 where
  to_source : Leads told first source zero first source
  to_included : (n : ℕ) (path name : List ℕ) (tops : List Top) (tree : Source)
      → Leads told first source n path tops → Contains tops (Include name) → IsSpelled told (target path name) tree
      → Leads told first source (suc n) (target path name) tree.tops

-- Includes nest too deep: one stands in a text that the most includes lead to.
pub record IsTooDeep (told : Told) (first : List ℕ) (source : List Top) : Type 0 where
  pub path : List ℕ
  pub tops : List Top
  pub name : List ℕ
  pub leads : Leads told first source most path tops
  pub stands : Contains tops (Include name)

-- An include names this path, and doesn't stand too deep.
pub record IsIncluded (told : Told) (first : List ℕ) (source : List Top) (text : List ℕ) : Type 0 where
  pub depth : ℕ
  pub path : List ℕ
  pub tops : List Top
  pub name : List ℕ
  pub leads : Leads told first source depth path tops
  pub above : depth < most
  pub stands : Contains tops (Include name)
  pub names : text ≡ target path name

-- A path is included at which no text is.
pub record Lacks (told : Told) (first : List ℕ) (source : List Top) : Type 0 where
  pub text : List ℕ
  pub included : IsIncluded told first source text
  pub missing : IsMissing told text

-- At each path that is included stands an included text, or none.
abbrev pub AreTexts : Told → List ℕ → List Top → Type 0
AreTexts told first source =
    (text : List ℕ) → IsIncluded told first source text → ((tree : Source) × IsSpelled told text tree) ⊎ IsMissing told text

-- The files are told.
abbrev pub AreTold : Told → Type 0
AreTold None = ⊥
AreTold (Some files) = Unit {0}

-- ---- the row of all declarations

abbrev pub is_include : Top → Bool
is_include (Include name) = true
is_include (Declared decl) = false
is_include (Defined name part of body) = false

-- What a text flattens to in which includes nest at most so deep: its declarations in order, in the place of each include what the
-- text that it names flattens to.
pub data Flattens (told : Told) : ℕ → List ℕ → List Top → List Placed → Type 0 where
  nothing : (n : ℕ) (path : List ℕ) → Flattens told n path [] []
  declaration : (n : ℕ) (path : List ℕ) (top : Top) (tops : List Top) (rest : List Placed)
      → is_include top ≡ false → Flattens told n path tops rest
      → Flattens told n path (top ∷ tops) (record { path = path; top = top } ∷ rest)
  text : (n : ℕ) (path name : List ℕ) (tree : Source) (tops : List Top) (row rest : List Placed)
      → IsSpelled told (target path name) tree → Flattens told n (target path name) tree.tops row
      → Flattens told (suc n) path tops rest
      → Flattens told (suc n) path (Include name ∷ tops) (row ++ rest)

-- A text that declares something stands in a row twice.
pub record IsDoubled (told : Told) (row : List Placed) : Type 0 where
  pub path : List ℕ
  pub tree : Source
  pub depth : ℕ
  pub front : List Placed
  pub inner : List Placed
  pub middle : List Placed
  pub back : List Placed
  pub there : IsSpelled told path tree
  pub flat : Flattens told depth path tree.tops inner
  pub declares : inner ≢ []
  pub parts : row ≡ front ++ inner ++ middle ++ inner ++ back
