-- A source is one typed module at most.
use Rattle.std.proofs.Common.{◌≡◌, ℕ, List, refl, sym, subst, ◌∙◌}
use Rattle.std.proofs.lemmas.Option.{same_Some}
use Rattle.inf_ports.specs.Outside.{Told}
use Rattle.limbo_tree.specs.Sources.{Source}
use Rattle.limbo_top.specs.Tops.{Placed}
use Rattle.limbo_entries.specs.Entries.{Entry}
use Rattle.limbo_declare.specs.Declares.{Declares}
use Rattle.limbo_declare.proofs.Scope as scopes
use Rattle.limbo_modules.specs.Modules.{IsModule}
use Rattle.limbo_modules.specs.Laws.{OneModule}
use Rattle.source_names.specs.Included.{AreTold}
use Rattle.source_names.specs.Declares.{HasRow}
use Rattle.source_names.proofs.Told.{one_row}
use Rattle.source_modules.specs.Laws.{OneChecked}

-- what holds of one scope of a source holds of each
module _ (told : Told) (t : AreTold told) (path : List ℕ) (tree : Source) where
  pub same_scope : (P : List ℕ → List Placed → List Entry → ℕ → Type 0) (a b : List ℕ) (v w : List Placed) (es fs : List Entry) (m n : ℕ)
      → HasRow told path tree a v → HasRow told path tree b w → Declares a v es m → Declares b w fs n → P a v es m → P b w fs n
  same_scope P a b v w es fs m n h i d e p =
      let name : a ≡ b = same_Some a b (sym h.implements ∙ i.implements) in
      let row : v ≡ w = one_row told t 16 16 path tree.tops v w h.flat i.flat in
      let named = subst (λ (z : List ℕ). Declares z v es m × P z v es m) name (d, p) in
      let both = subst (λ (z : List Placed). Declares b z es m × P b z es m) row named in
      let one = scopes.one b w es fs m n both.0 e in
      subst (λ (z : ℕ). P b w fs z) one.1 (subst (λ (z : List Entry). P b w z m) one.0 both.1)

pub one_checked : OneModule → OneChecked
one_checked one = λ told path tree es fs m n x y t f g.
    let same = same_scope told t path tree in
    let tables = same (λ b w z k. (es ≡ z) × (m ≡ k)) f.name g.name f.row g.row es fs m n f.has g.has f.declares g.declares (refl, refl) in
    let is = same (λ b w z k. IsModule b w z k x) f.name g.name f.row g.row es fs m n f.has g.has f.declares g.declares f.is in
    (tables.0, tables.1, one g.name g.row fs n x y g.declares.numbers.once is g.is)
