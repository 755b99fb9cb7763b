-- The includes of all texts in one list, and the texts that so many of them lead to.
use Rattle.std.specs.Prelude.{◌≡◌, ℕ, ◌+◌, ◌<◌, Bool, true, false, List, [], ◌∷◌, ◌++◌, map, length, Some, slice_get, slice_index_or}
use Rattle.std.specs.List.{Contains}
use Rattle.inf_text.specs.declared.span.Span.{Span}
use Rattle.limbo_tree.specs.declared.source.Top.{Top}
use Rattle.limbo_tree.specs.declared.source.Top.TheVariants.{Include, Declare, Define}
use Rattle.limbo_includes.specs.declared.included.Included.{Included}
use Rattle.limbo_includes.specs.declared.links.Link.{Link}
use Rattle.limbo_includes.specs.Shelf.{place_of}
use Rattle.limbo_includes.specs.Includes.{target, Given, Leads, LacksAt}

-- A text: its path, and what stands in it.
pub record Page : Type 0 where
  pub path : List ℕ
  pub tops : List Top

abbrev pub page_of : Included → Page
page_of t = record { path = t.path; tops = t.tree.tops.items }

-- All texts by their numbers: those that are at hand, and the given source behind them.
abbrev pub pages : Given → List Page
pages g = map page_of g.included ++ record { path = g.path; tops = g.source } ∷ []

-- The includes of one text, with its number.
abbrev pub links_in : List Included → ℕ → List ℕ → List Top → List Link
links_in included n path [] = []
links_in included n path (Include name at ∷ tops) =
    record { from = n; to = place_of included (target path name); at = at } ∷ links_in included n path tops
links_in included n path (Declare decl ∷ tops) = links_in included n path tops
links_in included n path (Define function ∷ tops) = links_in included n path tops

-- The includes of texts in a row, the first of which has this number.
abbrev pub links_from : List Included → ℕ → List Page → List Link
links_from included n [] = []
links_from included n (p ∷ ps) = links_in included n p.path p.tops ++ links_from included (n + 1) ps

abbrev pub links_of : Given → List Link
links_of g = links_from g.included 0 (pages g)

-- whether a text is marked
abbrev pub is_marked : List Bool → ℕ → Bool
is_marked marks n = slice_index_or marks n false

-- An include that stands in a marked text names the text of this number.
pub record IsNamed (links : List Link) (marks : List Bool) (n : ℕ) : Type 0 where
  pub link : Link
  pub listed : Contains links link
  pub begins : is_marked marks link.from ≡ true
  pub to : link.to ≡ Some n

-- The texts that so many includes lead to are marked, and no other.
pub record IsLevel (g : Given) (depth : ℕ) (marks : List Bool) : Type 0 where
  pub same_length : length marks ≡ length (pages g)
  pub sound : (n : ℕ) → is_marked marks n ≡ true → (p : Page) × (slice_get (pages g) n ≡ Some p) × Leads g depth p.path p.tops
  pub complete :
      (path : List ℕ) (tops : List Top) → Leads g depth path tops
      → (n : ℕ) × (is_marked marks n ≡ true) × (slice_get (pages g) n ≡ Some (record { path = path; tops = tops }))

-- The include is one that names no text.
pub record IsLost (g : Given) (link : Link) : Type 0 where
  pub page : Page
  pub there : slice_get (pages g) link.from ≡ Some page
  pub lacks : LacksAt g page.path link.at

-- No include that stands less deep names no text.
abbrev pub NoneLost : Given → ℕ → Type 0
NoneLost g depth = (path : List ℕ) (at : Span) (l : LacksAt g path at) → l.depth < depth → ⊥
