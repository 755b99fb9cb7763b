-- What holds of nodes that store nothing stays true of each node in a value where a type is asked for.
use Rattle.std.proofs.Common.{◌≡◌, List, [], ◌∷◌, subst, sym}
use Rattle.limbo_types.specs.Types.{Ty, ListOf}
use Rattle.limbo_layout.specs.Adts.{listed}
use Rattle.limbo_typed.specs.declared.operation.Operation.TheVariants as op
use Rattle.limbo_typed.specs.Typed.{Expr, Of, Node, Exprs, Optional, Items}
use Rattle.limbo_typed.specs.Typed.{Nil, Apply, Filled, Assign, Update, Step, Copy, Send}
use Rattle.limbo_standing.specs.Standing as standing
use Rattle.limbo_standing.specs.Standing.{Settles, SettlesForm, SettleEach, SettleAll, SettleItems, SettleRest}
use Rattle.limbo_permits.specs.Permits.{node_of}
use Rattle.limbo_typed_stores.specs.Nodes.{AllNodes, InNode, InEach, InOptional, InItems}

abbrev pub StoresNothing : Node → Type 0
StoresNothing (Assign p e) = ⊥
StoresNothing (Update o p e) = ⊥
StoresNothing (Step o g p) = ⊥
StoresNothing (Copy a i e) = ⊥
StoresNothing (Send c e) = ⊥
StoresNothing _ = Unit {0}

module _ (P : Node → Type 0) where
  pub whole : (e : Expr) → P (node_of e) → InNode P (node_of e) → AllNodes P e
  whole (Of t n) p h = (p, h)

  pub own : (e : Expr) → AllNodes P e → P (node_of e)
  own (Of t n) h = h.0

  pub inner : (e : Expr) → AllNodes P e → InNode P (node_of e)
  inner (Of t n) h = h.1

  pub inner_same : (e f : Expr) → e ≡ f → InNode P (node_of f) → InNode P (node_of e)
  inner_same e f q h = subst (λ (z : Expr). InNode P (node_of z)) (sym q) h

module _ (P : Node → Type 0) (plain : (n : Node) → StoresNothing n → P n) where
  mutual
    pub settled : (t : Ty) (e f : Expr) → Settles t e f → AllNodes P e → AllNodes P f
    settled _ _ _ (standing.itself t n) h = h
    settled _ _ _ (standing.by_form t u n e d s) h = settled_form t u n e s h

    pub settled_form : (t u : Ty) (n : Node) (e : Expr) → SettlesForm t u n e → AllNodes P (Of u n) → AllNodes P e
    settled_form _ _ _ _ (standing.nil t n) h = (plain Nil tt, tt)
    settled_form _ _ _ _ (standing.variant n v e) h = h
    settled_form _ _ _ _ (standing.tuple ts u es fs s) h = (plain (Apply op.Tuple fs) tt, settled_each (listed ts) es fs s h.1)
    settled_form _ _ _ _ (standing.list t u es fs s) h = (plain (Apply op.List fs) tt, settled_all t es fs s h.1)
    settled_form _ _ _ _ (standing.cons t u es fs s) h = (plain (Apply op.Cons fs) tt, settled_each (t ∷ ListOf t ∷ []) es fs s h.1)
    settled_form _ _ _ _ (standing.array t u length is js rest last s r) h =
        (plain (Filled length js last) tt, (h.1.0, settled_items t is js s h.1.1, settled_rest t rest last r h.1.2))

    pub settled_each : (ts : List Ty) (es fs : Exprs) → SettleEach ts es fs → InEach P es → InEach P fs
    settled_each _ _ _ standing.none_left h = tt
    settled_each _ _ _ (standing.each t ts e f es fs s r) h = (settled t e f s h.0, settled_each ts es fs r h.1)

    pub settled_all : (t : Ty) (es fs : Exprs) → SettleAll t es fs → InEach P es → InEach P fs
    settled_all _ _ _ (standing.no_values t) h = tt
    settled_all _ _ _ (standing.values t e f es fs s r) h = (settled t e f s h.0, settled_all t es fs r h.1)

    pub settled_items : (t : Ty) (is js : Items) → SettleItems t is js → InItems P is → InItems P js
    settled_items _ _ _ (standing.no_items t) h = tt
    settled_items _ _ _ (standing.items t i e f is js s r) h = (settled t e f s h.0, settled_items t is js r h.1)

    pub settled_rest : (t : Ty) (o p : Optional) → SettleRest t o p → InOptional P o → InOptional P p
    settled_rest _ _ _ (standing.no_rest t) h = tt
    settled_rest _ _ _ (standing.rest t e f s) h = settled t e f s h
