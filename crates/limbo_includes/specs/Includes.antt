-- A source and the texts that it includes, one in the other (Limbo Language Reference, include).
use Rattle.std.specs.Prelude.{◌≡◌, ◌≢◌, ℕ, zero, suc, nat_eq, Bool, true, false, ◌==◌, ◌||◌, if◌then◌else◌}
use Rattle.std.specs.Prelude.{List, [], ◌∷◌, ◌++◌, Option, None, Some, codes}
use Rattle.std.specs.List.{Contains}
use Rattle.std.specs.Cmp.Lexicographic.{pointwise}
use Rattle.inf_text.specs.declared.span.Span.{Span}
use Rattle.limbo_tree.specs.declared.source.Top.{Top}
use Rattle.limbo_tree.specs.declared.source.Top.TheVariants.{Include, Declare, Define}
use Rattle.limbo_includes.specs.declared.included.Included.{Included}

-- ---- paths

abbrev pub is_same : List ℕ → List ℕ → Bool
is_same = pointwise nat_eq

-- The built-in texts, known by their names alone.
abbrev pub is_built_in : List ℕ → Bool
is_built_in name = is_same name (codes "sys.m") || is_same name (codes "draw.m")

abbrev pub slash : ℕ
slash = 47

abbrev pub has_slash : List ℕ → Bool
has_slash [] = false
has_slash (c ∷ cs) = (c == slash) || has_slash cs

-- What stands up to and with the last slash of a path: nothing where there is none.
abbrev pub folder_of : List ℕ → List ℕ
folder_of [] = []
folder_of (c ∷ cs) = if has_slash (c ∷ cs) then c ∷ folder_of cs else []

-- The path of the text that an include names: a built-in text's name alone, any other from the folder of the including text.
abbrev pub target : List ℕ → List ℕ → List ℕ
target including name = if is_built_in name then name else folder_of including ++ name

-- ---- the texts that are included

-- What stands in the text of a path: in the first of that path.
abbrev pub tops_at : List Included → List ℕ → Option (List Top)
tops_at [] path = None
tops_at (t ∷ ts) path = if is_same t.path path then Some t.tree.tops.items else tops_at ts path

-- A given source with its path, and the texts that are at hand.
pub record Given : Type 0 where
  pub path : List ℕ
  pub source : List Top
  pub included : List Included

-- What so many includes, one in the other, lead to from the given source: a text's path, and what stands in it.
pub data Leads (g : Given) : ℕ → List ℕ → List Top → Type 0 where
  to_given : Leads g zero g.path g.source
  to_included : (n : ℕ) (path name : List ℕ) (at : Span) (tops inner : List Top)
      → Leads g n path tops → Contains tops (Include name at) → tops_at g.included (target path name) ≡ Some inner
      → Leads g (suc n) (target path name) inner

-- how deep includes may nest
abbrev pub most : ℕ
most = 16

-- Includes nest too deep: one stands in a text that the most includes lead to.
pub record IsTooDeep (g : Given) : Type 0 where
  pub path : List ℕ
  pub tops : List Top
  pub name : List ℕ
  pub at : Span
  pub leads : Leads g most path tops
  pub stands : Contains tops (Include name at)

-- An include at this place, in the text of this path, names a text that isn't there.
pub record LacksAt (g : Given) (path : List ℕ) (at : Span) : Type 0 where
  pub depth : ℕ
  pub tops : List Top
  pub name : List ℕ
  pub leads : Leads g depth path tops
  pub stands : Contains tops (Include name at)
  pub missing : tops_at g.included (target path name) ≡ None

-- Nothing is too deep, and nothing lacks.
pub record IsWhole (g : Given) : Type 0 where
  pub nested : IsTooDeep g → ⊥
  pub there : (path : List ℕ) (at : Span) → LacksAt g path at → ⊥

-- ---- the row of all declarations

-- A declaration, with the path of the text in which it stands.
pub record Standing : Type 0 where
  pub path : List ℕ
  pub top : Top

abbrev pub is_include : Top → Bool
is_include (Include name at) = true
is_include (Declare decl) = false
is_include (Define function) = false

-- What a text flattens to: its declarations in order, in the place of each include what the text that it names flattens to.
pub data Flattens (included : List Included) : List ℕ → List Top → List Standing → Type 0 where
  nothing : (path : List ℕ) → Flattens included path [] []
  declaration : (path : List ℕ) (top : Top) (tops : List Top) (rest : List Standing)
      → is_include top ≡ false → Flattens included path tops rest
      → Flattens included path (top ∷ tops) (record { path = path; top = top } ∷ rest)
  text : (path name : List ℕ) (at : Span) (tops inner : List Top) (row rest : List Standing)
      → tops_at included (target path name) ≡ Some inner → Flattens included (target path name) inner row
      → Flattens included path tops rest
      → Flattens included path (Include name at ∷ tops) (row ++ rest)

-- A text that declares something stands in a row twice.
pub record IsDoubled (included : List Included) (row : List Standing) : Type 0 where
  pub path : List ℕ
  pub tops : List Top
  pub front : List Standing
  pub inner : List Standing
  pub middle : List Standing
  pub back : List Standing
  pub there : tops_at included path ≡ Some tops
  pub flat : Flattens included path tops inner
  pub declares : inner ≢ []
  pub parts : row ≡ front ++ inner ++ middle ++ inner ++ back

-- What the given source flattens to has a text twice.
pub record IsTwice (g : Given) : Type 0 where
  pub row : List Standing
  pub flat : Flattens g.included g.path g.source row
  pub doubled : IsDoubled g.included row
