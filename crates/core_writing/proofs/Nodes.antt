-- Nodes behind their operands.
use Rattle.std.proofs.Common.{◌≡◌, ℕ, Option, List, [], ◌∷◌, length, refl}
use Rattle.limbo_types.specs.Types as ty
use Rattle.limbo_types.specs.Types.{Ty}
use Rattle.limbo_layout.specs.Adts.{Def}
use Rattle.limbo_typed.specs.declared.operation.Operation.{Operation}
use Rattle.limbo_typed.specs.declared.operation.Operation.TheVariants as operation
use Rattle.limbo_typed.specs.declared.print.Printed.{Printed}
use Rattle.limbo_typed.specs.declared.print.Piece.{Piece}
use Rattle.limbo_typed.specs.Typed as typed
use Rattle.limbo_meaning.specs.Places.{Way}
use Rattle.limbo_meaning.specs.Trees.{Call, Operate, Print, Read, TakePart}
use Rattle.limbo_meaning.specs.Evaluation.{refers, is_some}
use Rattle.limbo_meaning.specs.Program.{operating, node_of, printed_of}
use Rattle.limbo_meaning.specs.Values.{references, zero_of}
use Rattle.core_code.specs.Terms.{LoweredAll, Moved, node, count_of, drops_from, drops_if, moves_out, slot_at}
use Rattle.core_code.specs.Terms.{gathers, part_numbers, variant_of}
use Rattle.core_parts.specs.Nodes.{Whole, called, gathered, gave, picked, printed}
use Rattle.core_writing.specs.Completed.{channelled, completed}
use Rattle.core_writing.specs.Gathering.{tuple_of, whole_of}
use Rattle.core_writing.specs.Operands.{printing_node}

-- Where a type has references, each is dropped; and where it has none, there is none to drop.
pub held_drops : (defs : List Def) (t : Ty) (s : ℕ)
    → drops_if (refers defs t) (drops_from s 0 (count_of defs t)) ≡ drops_from s 0 (count_of defs t)
held_drops defs t s = go (references (zero_of defs t))
  where
    go : (rs : List (Option ℕ)) → drops_if (is_some rs) (drops_from s 0 (length rs)) ≡ drops_from s 0 (length rs)
    go [] = refl
    go (r ∷ rs) = refl

pub read_is : (defs : List Def) (us : List Ty) (t : Ty) (w : Way) (n : ℕ) (l : LoweredAll) → n ≡ count_of defs t
    → gave t (Read w) n l ≡ node defs us t (Read w) l
read_is defs us t w n l e = rw (e, held_drops defs t l.free) refl

pub operates : (defs : List Def) (us : List Ty) (t : Ty) (o : Operation) (n : ℕ) (l : LoweredAll) → (o ≡ operation.List → ⊥)
    → (o ≡ operation.Tuple → ⊥) → ((k : ℕ) (v : Option ℕ) → o ≡ operation.Adt k v → ⊥) → n ≡ count_of defs t
    → gave t (Operate o) n l ≡ node defs us t (operating o) l
operates defs us t operation.List n l p q r e = absurd (p refl)
operates defs us t operation.Tuple n l p q r e = absurd (q refl)
operates defs us t (operation.Adt k v) n l p q r e = absurd (r k v refl)
operates defs us t _ n l p q r e = rw (e, held_drops defs t l.free) refl

pub part_is : (defs : List Def) (u t : Ty) (n : ℕ) (l : LoweredAll) (v : Moved) (s : ℕ) (w : Ty) → w ≡ u → s ≡ slot_at 0 l.values
    → v ≡ moves_out defs w n s l.free → picked t n v l ≡ node defs (u ∷ []) t (TakePart n) l
part_is defs u t n l v s w ew es ev = rw (ev, es, ew) refl

pub channel_is : (defs : List Def) (t : Ty) (k : typed.Optional) (l : LoweredAll)
    → channelled defs t k l ≡ completed defs (node_of t (typed.Channel k)) l
channel_is defs t typed.Absent l = refl
channel_is defs t (typed.Present n) l = refl

pub print_node_is : (t : Ty) (w : Printed) (m : typed.Expr) (file : typed.Optional) (ps : List Piece) (es : typed.Exprs)
    → node_of t (typed.Print w m file ps es) ≡ printing_node w t ps file (printed_of es)
print_node_is t w m typed.Absent ps es = refl
print_node_is t w m (typed.Present f) ps es = refl

-- ---- operands that are put together

pub parts_are : (defs : List Def) (t : Ty) (o : Operation) (l : LoweredAll) (m : Whole)
    → m ≡ whole_of defs t (variant_of defs o) (part_numbers defs o (length l.values)) l.free l.values
    → gathered defs o m l ≡ gathers defs t o l
parts_are defs t o l m e = rw e refl

pub call_is : (defs : List Def) (us vs : List Ty) (t : Ty) (f n : ℕ) (l : LoweredAll) (m : Whole)
    → m ≡ tuple_of defs 0 vs l.free l.values → vs ≡ us → n ≡ count_of defs t → called defs t f n m l ≡ node defs us t (Call f) l
call_is defs us vs t f n l m em ev en = rw (em, ev, en) refl

pub print_is : (defs : List Def) (us vs : List Ty) (t : Ty) (ps : List Piece) (l : LoweredAll) (m : Whole)
    → m ≡ tuple_of defs 1 vs l.free l.values → vs ≡ ty.Chars ∷ us → printed defs ps m l ≡ node defs us t (Print ps) l
print_is defs us vs t ps l m em ev = rw (em, ev) refl
