-- What is lowered, piece by piece.
use Rattle.std.proofs.Common.{◌≡◌, ℕ, suc, ◌≤◌, ◌<◌, ◌+◌, Bool, true, false, List, [], ◌∷◌, drop, length, get_or, refl, sym, ap}
use Rattle.std.proofs.Common.{arith, append_assoc}
use Rattle.std.proofs.lemmas.List.{append-nil}
use Rattle.limbo_types.specs.declared.ty.Ty as code_ty
use Rattle.limbo_types.specs.declared.ty.Ty.TheVariants as make_ty
use Rattle.limbo_types.specs.View.{view_ty}
use Rattle.limbo_types.proofs.Forms.{HasForm, has_form}
use Rattle.limbo_types.specs.Types as ty
use Rattle.limbo_types.specs.Types.{Ty}
use Rattle.limbo_layout.specs.Adts.{Def}
use Rattle.limbo_typed.specs.Typed as typed
use Rattle.limbo_typed.specs.declared.operation.Operation.{Operation}
use Rattle.limbo_typed.specs.declared.operation.Operation.TheVariants as operation
use Rattle.limbo_typed.specs.declared.operation.Given.{Given}
use Rattle.limbo_typed.specs.declared.operation.Given.TheVariants as given
use Rattle.limbo_typed.specs.View.{view_expr}
use Rattle.limbo_meaning.specs.Places.{Way}
use Rattle.limbo_meaning.specs.Trees.{Term, Terms, NoTerms, MoreTerms, Operate, Update}
use Rattle.limbo_meaning.specs.Evaluation.{work_refers}
use Rattle.limbo_meaning.specs.Program.{term_of}
use Rattle.core_code.specs.Terms.{Lowered, LoweredAll, lower, lower_all, count_of, drops_from, drops_if}
use Rattle.core_frames.specs.Sizes.{expr_size}
use Rattle.core_frames.proofs.Nodes.{slots_are_few}
use Rattle.core_parts.specs.Lowered.{added}
use Rattle.core_parts.specs.Nodes.{updated}
use Rattle.core_writing.specs.Completed.{continued, widened, got}
use Rattle.core_writing.specs.declared.operands.Operand.{Operand}
use Rattle.core_writing.specs.Operands.{view_operand, terms_in, operands_size, printed, term_as}
use Rattle.core_writing.proofs.Nodes.{held_drops}
use Rattle.core_writing.proofs.Typing.{operand_next}

-- ---- operands in a row

pub continued_none : (defs : List Def) (l : LoweredAll) → continued defs l NoTerms ≡ l
continued_none defs l = rw (append-nil l.each, append-nil l.code, append-nil l.drops, append-nil l.values) refl

pub continued_more : (defs : List Def) (l : LoweredAll) (t : Term) (ts : Terms)
    → continued defs (added l (lower defs l.free t)) ts ≡ continued defs l (MoreTerms t ts)
continued_more defs l t ts =
    let a = lower defs l.free t in
    let b = lower_all defs a.free ts in
    rw (
      append_assoc l.each (a.code ∷ []) b.each,
      append_assoc l.code a.code b.code,
      append_assoc l.drops a.drops b.drops,
      append_assoc l.values (a.value ∷ []) b.values,
    ) refl

pub operands_on : (defs : List Def) (os : List Operand) (i : ℕ) (o : Operand) (l next : LoweredAll) (a : Lowered) → i < length os
    → o ≡ get_or os i o → a ≡ lower defs l.free (view_operand o) → next ≡ added l a
    → continued defs next (terms_in (drop (i + 1) os)) ≡ continued defs l (terms_in (drop i os))
operands_on defs os i o l next a below at ea en =
    rw (en, ea, operand_next os i o below at) (continued_more defs l (view_operand o) (terms_in (drop (i + 1) os)))

pub room_on : (defs : List Def) (os : List Operand) (i : ℕ) (o : Operand) → i < length os → o ≡ get_or os i o
    → expr_size defs (view_expr o.expr.now) + operands_size defs (drop (i + 1) os) ≡ operands_size defs (drop i os)
room_on defs os i o below at = sym (ap (operands_size defs) (operand_next os i o below at))

-- ---- an argument as it is printed

pub widen_is : (defs : List Def) (lo : ℕ) (t : Ty) (n : typed.Node)
    → widened t (lower defs lo (term_of (typed.Of t n))) ≡ lower defs lo (printed (typed.Of t n))
widen_is defs lo t n = go t
  where
    go : (u : Ty) → widened u (lower defs lo (term_of (typed.Of u n))) ≡ lower defs lo (printed (typed.Of u n))
    go ty.Byte =
        let a = lower defs lo (term_of (typed.Of ty.Byte n)) in
        rw (append-nil a.code, append-nil a.drops, append-nil a.drops) refl
    go _ = refl

-- ---- updates

got_drops : (defs : List Def) (t : Ty) (o : Operation) (s : ℕ)
    → drops_if (work_refers defs t (Operate o)) (drops_from s 0 (count_of defs t)) ≡ drops_from s 0 (got defs t o)
got_drops defs t operation.Tuple s = refl
got_drops defs t (operation.Adt n v) s = refl
got_drops defs t _ s = held_drops defs t s

pub update_is : (defs : List Def) (lo : ℕ) (o : Operation) (g : Given) (t : Ty) (w : Way) (ts us : Terms)
    → updated o g t w (count_of defs t) (got defs t o) (lower_all defs lo ts) (lower_all defs (suc (lower_all defs lo ts).free) us)
    ≡ lower defs lo (Update o g t w ts us)
update_is defs lo o given.Old t w ts us = rw (got_drops defs t o (lower_all defs (suc (lower_all defs lo ts).free) us).free) refl
update_is defs lo o given.New t w ts us = rw (got_drops defs t o (lower_all defs (suc (lower_all defs lo ts).free) us).free) refl

pub update_made : (defs : List Def) (lo : ℕ) (o : Operation) (g : Given) (t : Ty) (w : Way) (ts us : Terms) (a b : LoweredAll) (m n k : ℕ)
    → a ≡ lower_all defs lo ts → k ≡ suc a.free → b ≡ lower_all defs k us → m ≡ count_of defs t → n ≡ got defs t o
    → updated o g t w m n a b ≡ lower defs lo (Update o g t w ts us)
update_made defs lo o g t w ts us a b m n k ea ek eb em en = rw (eb, ek, ea, em, en) (update_is defs lo o g t w ts us)

-- ---- slots are few

pub few : (defs : List Def) (lo : ℕ) (e : typed.Expr) (l : Lowered) → l ≡ lower defs lo (term_of e) → l.free ≤ lo + expr_size defs e
few defs lo e l told =
    let a = slots_are_few.expressions defs lo e in
    let b = ap (λ (x : Lowered). x.free) told in
    omega (arith, a, b)

pub few_as : (defs : List Def) (lo : ℕ) (p : Bool) (e : typed.Expr) (l : Lowered) → l ≡ lower defs lo (term_as p e)
    → l.free ≤ lo + expr_size defs e
few_as defs lo true (typed.Of t n) l told =
    let a = slots_are_few.printed defs lo (typed.MoreExprs (typed.Of t n) typed.NoExprs) in
    let b = ap (λ (x : Lowered). x.free) told in
    omega (arith, a, b)
few_as defs lo false e l told = few defs lo e l told

-- ---- an expression counts 16 bytes at least

least : (defs : List Def) (e : typed.Expr) → 1 ≤ expr_size defs e
least defs (typed.Of t (typed.Read (typed.At u p))) = omega arith
least defs (typed.Of t _) = omega arith

pub operands_least : (defs : List Def) (os : List Operand) → length os ≤ operands_size defs os
operands_least defs [] = omega arith
operands_least defs (o ∷ os) =
    let a = least defs (view_expr o.expr.now) in
    let b = operands_least defs os in
    omega (arith, a, b)

pub not_widened : (t : code_ty.Ty) (l : Lowered) → (t ≡ make_ty.Byte → ⊥) → l ≡ widened (view_ty t) l
not_widened t l p = go (view_ty t) (has_form t)
  where
    go : (u : Ty) → HasForm t u → l ≡ widened u l
    go ty.Byte h = absurd (p h)
    go _ h = refl
