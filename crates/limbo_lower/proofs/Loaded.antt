-- What statements on expressions write.
use Rattle.std.proofs.Common.{◌≡◌, Bool, true, false, Option, None, Some, refl, sym, ◌∙◌}
use Rattle.limbo_typed.specs.Typed as typed
use Rattle.limbo_meaning.specs.Program.{term_of, node_of, evaluated, is_load}
use Rattle.limbo_meaning.specs.Trees.{Term, Stm, Over, Eval}
use Rattle.limbo_lower.specs.Loops.{loads, is_some}

abbrev over : Option Stm → Term → Stm
over o t = elim o [ None ↦ Eval t | Some s ↦ s ]

-- what is done where nothing is
load_over : (n : typed.Node) (s : Stm) → is_load n ≡ Some s → s ≡ Over
load_over (typed.Assign p (typed.Of t (typed.Load i e))) s h = let same : Over ≡ s = cc in sym same
load_over (typed.Assign p (typed.Of t n)) s h = assigned n h
  where
    assigned : (m : typed.Node) → is_load (typed.Assign p (typed.Of t m)) ≡ Some s → s ≡ Over
    assigned (typed.Load i e) h = let same : Over ≡ s = cc in sym same
    assigned _ h = absurd cc
load_over n s h = absurd cc

stm_over : (o : Option Stm) (t : Term) → ((s : Stm) → o ≡ Some s → s ≡ Over) → (b : Bool) → is_some o ≡ b
    → over o t ≡ (elim b as (λ x. Stm) [ true ↦ Over | false ↦ Eval t ])
stm_over None t p true e = absurd cc
stm_over None t p false e = refl
stm_over (Some s) t p true e = p s refl
stm_over (Some s) t p false e = absurd cc

pub loaded : (e : typed.Expr) (b : Bool) → b ≡ true → b ≡ loads e → evaluated e ≡ Over
loaded (typed.Of t n) b h l = stm_over (is_load n) (node_of t n) (load_over n) true (sym l ∙ h)

pub not_loaded : (e : typed.Expr) (b : Bool) → b ≡ false → b ≡ loads e → evaluated e ≡ Eval (term_of e)
not_loaded (typed.Of t n) b h l = stm_over (is_load n) (node_of t n) (load_over n) false (sym l ∙ h)
