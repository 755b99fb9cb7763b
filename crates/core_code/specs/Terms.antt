-- The code of the trees of expressions. Each node of a statement has a slot of its own, numbered in the order of evaluation; but those
-- elements of an initialiser that hold no references share their slots.
use Rattle.std.specs.Prelude.{ℕ, ℤ, zero, suc, ◌+◌, ◌-◌, ◌&&◌, nat_le, nat_lt, Bool, true, false, List, [], ◌∷◌, ◌++◌, length, map, max}
use Rattle.std.specs.Prelude.{take, drop, reverse, nat_eq, if◌then◌else◌, Option, Some, None, slice_get, slice_index_or}
use Rattle.limbo_types.specs.Types as ty
use Rattle.limbo_types.specs.Types.{Ty, Tys}
use Rattle.limbo_types.specs.View.{tys_of}
use Rattle.limbo_layout.specs.Adts.{Def, listed, parts, variant_types}
use Rattle.limbo_typed.specs.declared.operation.Operation.{Operation}
use Rattle.limbo_typed.specs.declared.operation.Operation.TheVariants as operation
use Rattle.limbo_typed.specs.declared.operation.Given.{Given}
use Rattle.limbo_typed.specs.declared.operation.Given.TheVariants as given
use Rattle.limbo_meaning.specs.Values.{Ref, references, zero_of}
use Rattle.limbo_meaning.specs.Places.{operands_of}
use Rattle.limbo_meaning.specs.Operations.{item_of}
use Rattle.limbo_meaning.specs.Trees as tree
use Rattle.limbo_meaning.specs.Trees.{Aim, Work, Operate, Term, Evaluated, Node, Lazy, Update, Fill, Terms, NoTerms, MoreTerms}
use Rattle.limbo_meaning.specs.Trees.{Items, NoItems, MoreItems}
use Rattle.limbo_meaning.specs.Evaluation.{passes_on, may_hold, work_refers, operands_for}
use Rattle.core_code.specs.Code.{Instr, Give, Place, Gather, Pick, Known, Write, CopyInto, Cell, Call, Print, Skip, Truth, Element, Next}
use Rattle.core_code.specs.Code.{Other}
use Rattle.core_code.specs.Code.{Start, Keep, Take, Drop, Mirror, Back}

-- The code of a tree, the drops of what it got, in that order, the slot of its value, and the first slot that it doesn't use.
pub record Lowered : Type 0 where
  pub code : List Instr
  pub drops : List Instr
  pub value : ℕ
  pub free : ℕ

-- The same of operands in a row: the code of each, and all of it.
pub record LoweredAll : Type 0 where
  pub each : List (List Instr)
  pub code : List Instr
  pub drops : List Instr
  pub values : List ℕ
  pub free : ℕ

abbrev pub slot_at : ℕ → List ℕ → ℕ
slot_at n ss = slice_index_or ss n 0

-- ---- drops

-- A drop for each of so many references of a slot.
abbrev pub drops_from : (slot reference count : ℕ) → List Instr
drops_from s k zero = []
drops_from s k (suc n) = Drop s k ∷ drops_from s (suc k) n

abbrev pub drops_if : Bool → List Instr → List Instr
drops_if true is = is
drops_if false is = []

-- What moved is dropped where it is: so many references of a slot, from one on, stand in another slot from there on.
pub record Moved : Type 0 where
  pub slot : ℕ
  pub first : ℕ
  pub count : ℕ
  pub into : ℕ
  pub at : ℕ

abbrev pub is_moved : Moved → (slot reference : ℕ) → Bool
is_moved v s r = nat_eq v.slot s && (nat_le v.first r && nat_lt r (v.first + v.count))

abbrev pub drop_after : Moved → Instr → Instr
drop_after v (Drop s r) = if is_moved v s r then Drop v.into (v.at + (r - v.first)) else Drop s r
drop_after v i = i

abbrev pub drops_after : Moved → List Instr → List Instr
drops_after v is = map (drop_after v) is

abbrev pub drops_after_all : List Moved → List Instr → List Instr
drops_after_all [] is = is
drops_after_all (v ∷ vs) is = drops_after_all vs (drops_after v is)

module _ (defs : List Def) where
  -- how many references values of a type have, and of types in a row
  abbrev pub count_of : Ty → ℕ
  count_of t = length (references (zero_of defs t))

  abbrev pub count_all : List Ty → ℕ
  count_all [] = 0
  count_all (t ∷ ts) = count_of t + count_all ts

  -- The parts of a tuple and of an adt into which operands move, by their numbers.
  abbrev pub numbers_from : (from count : ℕ) → List ℕ
  numbers_from n zero = []
  numbers_from n (suc k) = n ∷ numbers_from (suc n) k

  abbrev pub parts_there : Option Def → List Ty
  parts_there None = []
  parts_there (Some d) = parts d

  abbrev pub part_types : Ty → List Ty
  part_types (ty.Tuple ts) = listed ts
  part_types (ty.Adt n) = parts_there (slice_get defs n)
  part_types t = []

  abbrev pub adt_numbers : Option Def → Option ℕ → (operands : ℕ) → List ℕ
  adt_numbers (Some d) (Some v) k =
      let common = length d.fields in
      numbers_from 1 common ++ numbers_from (1 + common + length (variant_types (take v d.picks))) (k - common)
  adt_numbers d v k = numbers_from 0 k

  abbrev pub part_numbers : Operation → (operands : ℕ) → List ℕ
  part_numbers (operation.Adt n v) k = adt_numbers (slice_get defs n) v k
  part_numbers o k = numbers_from 0 k

  -- Where the references of operands are that move into parts of a slot.
  abbrev pub moves_into : (types : List Ty) → (into : ℕ) → (numbers slots : List ℕ) → List Moved
  moves_into ts into (n ∷ ns) (s ∷ ss) =
      record { slot = s; first = 0; count = count_of (slice_index_or ts n ty.Int); into = into; at = count_all (take n ts) }
      ∷ moves_into ts into ns ss
  moves_into ts into _ _ = []

  -- ---- nodes behind their operands

  -- a node with a slot of its own, which holds the references that it gets
  abbrev pub gives : Ty → Work → LoweredAll → Lowered
  gives t o l = record {
    code = l.code ++ Give t o l.free l.values ∷ [];
    drops = l.drops ++ drops_if (work_refers defs t o) (drops_from l.free 0 (count_of t));
    value = l.free;
    free = suc l.free;
  }

  -- The code of each operand, and behind it the operand comes to its part of what is put together in a slot.
  abbrev pub placed : Ty → (variant : Option ℕ) → (into : ℕ) → (operand : ℕ) → (parts : List ℕ) → List (List Instr) → List ℕ
      → List Instr
  placed t v into n (k ∷ ks) (c ∷ cs) (s ∷ ss) = c ++ Place t v n k into s ∷ placed t v into (suc n) ks cs ss
  placed t v into n ks cs ss = []

  abbrev pub variant_of : Operation → Option ℕ
  variant_of (operation.Adt n v) = v
  variant_of o = None

  abbrev pub gathers : Ty → Operation → LoweredAll → Lowered
  gathers t o l = record {
    code = placed t (variant_of o) l.free 0 (part_numbers o (length l.values)) l.each l.values
        ++ Gather t (Operate o) l.free (length l.values) ∷ [];
    drops = drops_after_all (moves_into (part_types t) l.free (part_numbers o (length l.values)) l.values) l.drops;
    value = l.free;
    free = suc l.free;
  }

  -- A call and a print put their operands, of these types, together as a tuple in a slot, where there are any; behind it comes the slot of
  -- the value. The tuple may have others in front.
  abbrev pub operands_slot : LoweredAll → Option ℕ
  operands_slot l = if nat_eq (length l.values) 0 then None else Some l.free

  abbrev pub value_slot : LoweredAll → ℕ
  value_slot l = if nat_eq (length l.values) 0 then l.free else suc l.free

  abbrev pub together : (front : List Ty) → List Ty → LoweredAll → List Instr
  together front ts l =
      placed (ty.Tuple (tys_of (front ++ ts))) None l.free 0 (numbers_from (length front) (length l.values)) l.each l.values

  abbrev pub together_drops : (front : List Ty) → List Ty → LoweredAll → List Instr
  together_drops front ts l =
      drops_after_all (moves_into (front ++ ts) l.free (numbers_from (length front) (length l.values)) l.values) l.drops

  -- the writes of an assignment: each place takes its operands from the front
  abbrev pub writes : List Aim → (operands : List ℕ) → (value : ℕ) → List Instr
  writes [] ss v = []
  writes (a ∷ aims) ss v = Write a.type a.way (take (operands_of a.way) ss) a.part v ∷ writes aims (drop (operands_of a.way) ss) v

  -- the cells of a list, the last first
  abbrev pub cells : Ty → (items : List ℕ) → (behind : Option ℕ) → (free : ℕ) → List Instr
  cells t [] b free = []
  cells t (s ∷ ss) b free = Cell t free s b ∷ cells t ss (Some free) (suc free)

  abbrev pub cell_drops : (count free : ℕ) → List Instr
  cell_drops zero free = []
  cell_drops (suc n) free = Drop free 0 ∷ cell_drops n (suc free)

  -- a list without items is nothing
  abbrev pub list_code : Ty → (items : List ℕ) → (free : ℕ) → List Instr
  list_code t [] free = Known (Ref None) free ∷ []
  list_code t (s ∷ ss) free = cells t (reverse (s ∷ ss)) None free

  abbrev pub links : Ty → LoweredAll → Lowered
  links t l = record {
    code = l.code ++ list_code (item_of t) l.values l.free;
    drops = l.drops ++ cell_drops (length l.values) l.free;
    value = l.free + (length l.values - 1);
    free = suc (l.free + (length l.values - 1));
  }

  -- Where the references of a part of a value of a type are, which is taken out of a slot.
  abbrev pub moves_out : Ty → (part : ℕ) → (from into : ℕ) → Moved
  moves_out t n from into = record {
    slot = from;
    first = count_all (take n (part_types t));
    count = count_of (slice_index_or (part_types t) n ty.Nothing);
    into = into;
    at = 0;
  }

  abbrev pub picks : (whole part : Ty) → ℕ → LoweredAll → Lowered
  picks u t n l = record {
    code = l.code ++ Pick t n l.free (slot_at 0 l.values) ∷ [];
    drops = drops_after (moves_out u n (slot_at 0 l.values) l.free) l.drops;
    value = l.free;
    free = suc l.free;
  }

  abbrev pub first_of : List Ty → Ty
  first_of [] = ty.Nothing
  first_of (u ∷ us) = u

  -- A node behind its operands, which are of these types.
  abbrev pub node : (types : List Ty) → Ty → Work → LoweredAll → Lowered
  node us t (Operate o) l = if passes_on o then gathers t o l else gives t (Operate o) l
  node us t (tree.Assign aims) l = record {
    code = l.code ++ writes aims l.values (slot_at (operands_for aims) l.values);
    drops = l.drops;
    value = slot_at (operands_for aims) l.values;
    free = l.free;
  }
  node us t (tree.TakePart n) l = picks (first_of us) t n l
  node us t tree.Copy l = record {
    code = l.code ++ CopyInto (slot_at 0 l.values) (slot_at 1 l.values) (slot_at 2 l.values) ∷ [];
    drops = l.drops;
    value = slot_at 2 l.values;
    free = l.free;
  }
  node us t tree.Link l = links t l
  node us t (tree.Call f) l = record {
    code = together [] us l ++ Call t f (value_slot l) (operands_slot l) ∷ [];
    drops = together_drops [] us l ++ drops_from (value_slot l) 0 (count_of t);
    value = value_slot l;
    free = suc (value_slot l);
  }
  node us t (tree.Print ps) l = record {
    code = together (ty.Chars ∷ []) us l ++ Print ps (value_slot l) (operands_slot l) ∷ [];
    drops = together_drops (ty.Chars ∷ []) us l;
    value = value_slot l;
    free = suc (value_slot l);
  }
  node us t tree.NewChannel l = record {
    code = l.code ++ Give t tree.NewChannel l.free [] ∷ [];
    drops = l.drops ++ Drop l.free 0 ∷ [];
    value = l.free;
    free = suc l.free;
  }
  node us t o l = gives t o l

  abbrev pub given_slot : Given → (old new : ℕ) → ℕ
  given_slot given.Old old new = old
  given_slot given.New old new = new

  -- the indices that elements name
  abbrev pub named : Items → List ℤ
  named NoItems = []
  named (MoreItems i t is) = i ∷ named is

  -- A loop of the others' element, whose slot is `from`: with a chain, and the element's slots behind it, where the element may hold
  -- something.
  abbrev pub others : Bool → Ty → (array : ℕ) → List ℤ → (from : ℕ) → Lowered → Lowered
  others true t a zs from e =
      let turn = e.code ++ (Other t a from e.value ∷ Keep from (suc from) (e.free - suc from) ∷ []) in
      record {
        code = Start from ∷ Next a from zs (suc (length turn)) ∷ turn ++ Back (suc (length turn)) ∷ [];
        drops = Take from (suc from) (e.free - suc from) (suc (length e.drops)) ∷ e.drops ++ Back (suc (length e.drops)) ∷ [];
        value = a;
        free = e.free;
      }
  others false t a zs from e =
      let turn = e.code ++ Other t a from e.value ∷ [] in
      record {
        code = Start from ∷ Next a from zs (suc (length turn)) ∷ turn ++ Back (suc (length turn)) ∷ [];
        drops = [];
        value = a;
        free = suc from;
      }

  -- As of which type the value of a tree stands in its slot: an assignment and a copy pass on theirs as it is.
  abbrev mutual
    pub type_of : Term → Ty
    type_of (Node t (tree.Assign aims) ts) = type_at (operands_for aims) ts
    type_of (Node t tree.Copy ts) = type_at 2 ts
    type_of (Node t o ts) = t
    type_of (Lazy c l r) = ty.Int
    type_of (Update o g t w ts us) = t
    type_of (Fill t l is rest) = ty.ArrayOf t
    type_of t = ty.Nothing

    pub type_at : ℕ → Terms → Ty
    type_at n NoTerms = ty.Nothing
    type_at zero (MoreTerms t ts) = type_of t
    type_at (suc n) (MoreTerms t ts) = type_at n ts

  abbrev pub types_in : Terms → List Ty
  types_in NoTerms = []
  types_in (MoreTerms t ts) = type_of t ∷ types_in ts

  abbrev mutual
    pub lower : (lo : ℕ) → Term → Lowered
    lower lo (Evaluated v) = record { code = Known v lo ∷ []; drops = []; value = lo; free = suc lo }
    lower lo (Node t o ts) = node (types_in ts) t o (lower_all lo ts)
    lower lo (Lazy c l r) =
        let a = lower lo l in
        let b = lower (suc a.free) r in
        let held = may_hold defs r in
        record {
          code = a.code ++ Skip c b.free (if held then Some a.free else None) a.value
              (suc (length b.code)) ∷ b.code ++ Truth b.free b.value ∷ [];
          drops = a.drops ++ drops_if held (Mirror a.free (length b.drops) ∷ b.drops);
          value = b.free;
          free = suc b.free;
        }
    lower lo (Update o g t w ts us) =
        let a = lower_all lo ts in
        let b = lower_all (suc a.free) us in
        record {
          code = a.code ++ Give t (tree.Read w) a.free a.values ∷ b.code ++
              (Give t (Operate o) b.free (a.free ∷ b.values) ∷ Write t w a.values [] b.free ∷ []);
          drops = a.drops ++ (drops_from a.free 0 (count_of t) ++
              (b.drops ++ drops_if (work_refers defs t (Operate o)) (drops_from b.free 0 (count_of t))));
          value = given_slot g a.free b.free;
          free = suc b.free;
        }
    lower lo (Fill t l is rest) =
        let n = lower lo l in
        let shared = suc n.free in
        let es = lower_items t n.free shared (max (items_end shared is) (rest_end shared rest)) is in
        let os = lower_rest t n.free (named is) shared es.free rest in
        record {
          code = n.code ++ Give (ty.ArrayOf t) (Operate operation.NewArray) n.free (n.value ∷ []) ∷ es.code ++ os.code;
          drops = n.drops ++ Drop n.free 0 ∷ es.drops ++ os.drops;
          value = n.free;
          free = os.free;
        }
    -- what isn't of this part of the language has a slot, and no code
    lower lo t = record { code = []; drops = []; value = lo; free = suc lo }

    pub lower_all : (lo : ℕ) → Terms → LoweredAll
    lower_all lo NoTerms = record { each = []; code = []; drops = []; values = []; free = lo }
    lower_all lo (MoreTerms t ts) =
        let a = lower lo t in
        let b = lower_all a.free ts in
        record {
          each = a.code ∷ b.each;
          code = a.code ++ b.code;
          drops = a.drops ++ b.drops;
          values = a.value ∷ b.values;
          free = b.free;
        }

    -- The elements of an initialiser: one that holds nothing begins at the shared slots, another behind all that are used.
    pub lower_items : Ty → (array shared lo : ℕ) → Items → Lowered
    lower_items t a shared lo NoItems = record { code = []; drops = []; value = a; free = lo }
    lower_items t a shared lo (MoreItems i e is) =
        let x = lower (if may_hold defs e then lo else shared) e in
        let y = lower_items t a shared (if may_hold defs e then x.free else lo) is in
        record { code = x.code ++ Element t a i x.value ∷ y.code; drops = x.drops ++ y.drops; value = a; free = y.free }

    pub lower_rest : Ty → (array : ℕ) → List ℤ → (shared lo : ℕ) → Terms → Lowered
    lower_rest t a zs shared lo NoTerms = record { code = []; drops = []; value = a; free = lo }
    lower_rest t a zs shared lo (MoreTerms e es) =
        others (may_hold defs e) t a zs lo (lower (if may_hold defs e then suc lo else shared) e)

    -- Where the shared slots end: the greatest of the elements that hold nothing takes most.
    pub items_end : (shared : ℕ) → Items → ℕ
    items_end shared NoItems = shared
    items_end shared (MoreItems i e is) = max (if may_hold defs e then shared else (lower shared e).free) (items_end shared is)

    pub rest_end : (shared : ℕ) → Terms → ℕ
    rest_end shared NoTerms = shared
    rest_end shared (MoreTerms e es) = if may_hold defs e then shared else (lower shared e).free
