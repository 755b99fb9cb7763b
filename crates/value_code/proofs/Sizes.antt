-- How many instructions of the machine one of three-address code becomes doesn't depend on where it stands, nor on numbers of types.
use Rattle.std.proofs.Common.{◌≡◌, ℕ, zero, suc, ◌+◌, ℤ, Bool, true, false, List, [], ◌∷◌, ◌++◌, length, Option, None, Some, refl, ap, arith}
use Rattle.std.proofs.Common.{length-append, pos, ◌∙◌}
use Rattle.std.specs.Prelude.{slice_index_or}
use Rattle.limbo_types.specs.Types as ty
use Rattle.limbo_types.specs.Types.{Ty}
use Rattle.limbo_layout.specs.Adts.{Def}
use Rattle.limbo_values.specs.declared.number.Kind.{Kind}
use Rattle.limbo_values.specs.declared.number.Kind.TheVariants.{Big}
use Rattle.limbo_values.specs.declared.operator.Comparison.{Comparison}
use Rattle.limbo_typed.specs.declared.operation.Operation.{Operation}
use Rattle.limbo_typed.specs.declared.operation.Operation.TheVariants as operation
use Rattle.limbo_typed.specs.declared.operation.Connective.{Connective}
use Rattle.limbo_typed.specs.declared.stmt.Constant.{Constant}
use Rattle.limbo_typed.specs.declared.stmt.Constant.TheVariants as constant
use Rattle.limbo_meaning.specs.Values.{Value, Num}
use Rattle.limbo_meaning.specs.Operations.{item_of}
use Rattle.limbo_meaning.specs.Places.{Way}
use Rattle.limbo_meaning.specs.Trees as tree
use Rattle.limbo_meaning.specs.Trees.{Work}
use Rattle.dis_isa.specs.declared.inst.Inst.{Inst}
use Rattle.dis_isa.specs.declared.inst.Middle.TheVariants as middle
use Rattle.dis_isa.specs.declared.inst.Operand as isa
use Rattle.dis_isa.specs.declared.inst.Operand.TheVariants as operand
use Rattle.dis_isa.specs.declared.op.Op.{Op}
use Rattle.dis_isa.specs.declared.op.Op.TheVariants as op
use Rattle.core_code.specs.Code as core
use Rattle.core_code.specs.Code.{Instr}
use Rattle.core_code.specs.Terms.{part_types}
use Rattle.value_frames.specs.Frames.{Form, AsReference, Boxed, form_of, names_at, made_place}
use Rattle.value_moves.specs.Operands.{Code, has_references, moved, moved_by, inst, sized, size_middle, own, behind}
use Rattle.value_code.specs.Data.{Named, OfValue, OfRecord, nil_word, sorted}
use Rattle.value_code.specs.Operands.{Scene, in_slot, part_in_slot, reference}
use Rattle.value_code.specs.Works.{cons_op, element_middle, element_sized, prepared, calculated, compared, operated}
use Rattle.value_code.specs.Code.{Site, zeroed, literal, known, begun, begun_first, placed, front_of, front_moved, arguments, compared_all, searched, read, put, put_or_zero, written, given}
use Rattle.value_code.specs.Code.{skipped, called, changed_box, let_one_go, returned, at_least, code_of, emptied, answer_to, spare, offset_at}
use Rattle.value_code.specs.Laws.{SeeTheSame}

record AsLong (xs ys : Code) : Type 0 where
  is : length xs ≡ length ys

even : {xs ys : Code} → length xs ≡ length ys → AsLong xs ys
even e = record { is = e }

same : {xs : Code} → AsLong xs xs
same = record { is = refl }

more : {x y : Inst} {xs ys : Code} → AsLong xs ys → AsLong (x ∷ xs) (y ∷ ys)
more h = record { is = ap suc h.is }

join : {xs ys xs' ys' : Code} → AsLong xs xs' → AsLong ys ys' → AsLong (xs ++ ys) (xs' ++ ys')
join {xs} {ys} {xs'} {ys'} e f =
    let a = length-append xs ys in let b = length-append xs' ys' in
    let g = e.is in let h = f.is in
    record { is = omega (arith, a, b, g, h) }

last : (xs : Code) (x y : Inst) → AsLong (xs ++ x ∷ []) (xs ++ y ∷ [])
last xs x y = join {xs = xs} {ys = x ∷ []} {ys' = y ∷ []} same (even refl)

-- ---- moves and zeros

moved_by_long : (r : Bool) (n n' size : ℕ) (a a' b b' : isa.Operand) → AsLong (moved_by r n size a b) (moved_by r n' size a' b')
moved_by_long true n n' size a a' b b' = even refl
moved_by_long false n n' size a a' b b' =
    last (sized size) (inst op.Movm a (size_middle size) b) (inst op.Movm a' (size_middle size) b')

moved_long : (defs : List Def) (t : Ty) (n n' : ℕ) (a a' b b' : isa.Operand) → AsLong (moved defs t n a b) (moved defs t n' a' b')
moved_long defs ty.Nothing n n' a a' b b' = even refl
moved_long defs (ty.Tuple ts) n n' a a' b b' = moved_by_long (has_references defs (ty.Tuple ts)) n n' _ a a' b b'
moved_long defs (ty.Adt k) n n' a a' b b' = moved_by_long (has_references defs (ty.Adt k)) n n' _ a a' b b'
moved_long defs t n n' a a' b b' = even refl

zeroed_long : (defs : List Def) (t : Ty) (n n' at at' : ℕ) (d : isa.Operand) → AsLong (zeroed defs t n at d) (zeroed defs t n' at' d)
zeroed_long defs ty.Nothing n n' at at' d = even refl
zeroed_long defs (ty.Tuple ts) n n' at at' d = moved_long defs (ty.Tuple ts) n n' _ _ d d
zeroed_long defs (ty.Adt k) n n' at at' d = moved_long defs (ty.Adt k) n n' _ _ d d
zeroed_long defs t n n' at at' d = even refl

prepared_long : (f : Form) (n n' : ℕ) (d : isa.Operand) → AsLong (prepared f n d) (prepared f n' d)
prepared_long Boxed n n' d = even refl
prepared_long f n n' d = even refl

-- ---- operations

calculated_long : (s : Scene) (o : Op) (k : Kind) (a : ℕ) (b : isa.Operand) (into n n' : ℕ)
    → AsLong (calculated s o k a b into n) (calculated s o k a b into n')
calculated_long s o Big a b into n n' = even refl
calculated_long s o k a b into n n' = even refl

compared_long : (s : Scene) (here here' : ℕ) (c : Comparison) (k : Kind) (a b into : ℕ)
    → AsLong (compared s here c k a b into) (compared s here' c k a b into)
compared_long s here here' c Big a b into = even refl
compared_long s here here' c k a b into = even refl

module _ (s : Scene) (t : Ty) (rs : List ℕ) (into here here' n n' e e' i i' : ℕ) where
  prepared_behind : (ys : Code) (d : isa.Operand) → AsLong (prepared (form_of t) n d ++ ys) (prepared (form_of t) n' d ++ ys)
  prepared_behind ys d = join (prepared_long (form_of t) n n' d) (even refl)

  operated_long : (o : Operation) → AsLong (operated s here t o rs into n e i) (operated s here' t o rs into n' e' i')
  operated_long (operation.Arithmetic o k) = calculated_long s _ k _ _ into n n'
  operated_long (operation.Shift h k) = calculated_long s _ k _ _ into n n'
  operated_long (operation.Alter u k) = prepared_behind _ _
  operated_long (operation.Compare c k) = compared_long s here here' c k _ _ into
  operated_long (operation.CompareChars c) = even refl
  operated_long operation.Identical = even refl
  operated_long operation.Distinct = even refl
  operated_long operation.Not = even refl
  operated_long (operation.Convert from to) = prepared_behind _ _
  operated_long (operation.ReadNumber k) = prepared_behind _ _
  operated_long (operation.NumberText k) = even refl
  operated_long operation.BytesText = even refl
  operated_long operation.TextBytes = even refl
  operated_long operation.Join = even refl
  operated_long operation.Cons = more (last _ _ _)
  operated_long operation.Head = join (prepared_long (form_of t) n n' _) (last _ _ _)
  operated_long operation.Tail = even refl
  operated_long (operation.Length q) = even refl
  operated_long operation.Tag = even refl
  operated_long operation.Ref = more (moved_long s.adts (item_of t) i i' _ _ _ _)
  operated_long operation.NewArray = even refl
  operated_long (operation.Slice q f g) = even refl
  operated_long operation.Character = even refl
  operated_long o = even refl

-- ---- constants

literal_long : (s : Scene) (t : Ty) (c : Constant) (into at at' n n' : ℕ) → AsLong (literal s t c into at n) (literal s t c into at' n')
literal_long s t (constant.Chars cs) into at at' n n' = even refl
literal_long s ty.Big (constant.Number z) into at at' n n' = even refl
literal_long s ty.Byte (constant.Number z) into at at' n n' = even refl
literal_long s t (constant.Number z) into at at' n n' = even refl

known_long : (s : Scene) (v : Value) (into at at' : ℕ) → AsLong (known s v into at) (known s v into at')
known_long s (Num z) into at at' = even refl
known_long s v into at at' = even refl

-- ---- codes of many parts

compared_all_long : (zs : List ℤ) (at at' here here' past past' : ℕ) → AsLong (compared_all zs at here past) (compared_all zs at' here' past')
compared_all_long [] at at' here here' past past' = even refl
compared_all_long (z ∷ zs) at at' here here' past past' =
    more (more (more (compared_all_long zs (at + 8) (at' + 8) (here + 3) (here' + 3) past past')))

searched_long : (s : Scene) (zs : List ℤ) (at at' here here' l past past' : ℕ)
    → AsLong (searched s zs at here l past) (searched s zs at' here' l past')
searched_long s zs at at' here here' l past past' = join (compared_all_long zs at at' here here' past past') (even refl)

module _ (s : Scene) (types types' : Named → ℕ) where
  begun_long : (n n' : ℕ) (v : Option ℕ) (into : ℕ) → AsLong (begun s n v into) (begun s n' v into)
  begun_long n n' v into = join (prepared_long Boxed n n' (reference s into)) (even refl)

  begun_first_long : (n n' : ℕ) (v : Option ℕ) (j into : ℕ) → AsLong (begun_first s n v j into) (begun_first s n' v j into)
  begun_first_long n n' v zero into = begun_long n n' v into
  begun_first_long n n' v (suc j) into = even refl

  placed_long : (t : Ty) (v : Option ℕ) (j k into from : ℕ) → AsLong (placed s types t v j k into from) (placed s types' t v j k into from)
  placed_long t v j k into from =
      let u = slice_index_or (part_types s.adts t) k ty.Nothing in
      join (begun_first_long _ _ v j into) (join (moved_long s.adts u _ _ _ _ _ _) (same {xs = emptied s (form_of u) from}))

  front_long : (n n' w a : ℕ) → AsLong (front_moved s n w a) (front_moved s n' w a)
  front_long n n' zero a = even refl
  front_long n n' (suc w) a = even refl

  arguments_long : (told : ℕ → Ty) (o : Option ℕ) → AsLong (arguments s types told o) (arguments s types' told o)
  arguments_long told None = even refl
  arguments_long told (Some a) = join (front_long _ _ (front_of s.adts (part_types s.adts (told a))) a) same

-- ---- the code of an instruction, at two sites

module _ (c : Site) (entries : ℕ → ℕ) (types : Named → ℕ) (frames : ℕ → ℕ) (here : ℕ) (past back : ℕ → ℕ) (at : ℕ) where
  abbrev d : Site
  d = record c {
    entries = entries;
    type_number = types;
    frame_number = frames;
    here = here;
    past = past;
    back = back;
    at = at;
  }

  prepared_at : (t : Ty) (o : isa.Operand) → AsLong (prepared (form_of t) (c.type_number (OfRecord t)) o) (prepared (form_of t) (types (OfRecord t)) o)
  prepared_at t o = prepared_long (form_of t) _ _ o

  read_long : (b : Bool) (t : Ty) (w : Way) (rs : List ℕ) (into : ℕ) → AsLong (read c b t w rs into) (read d b t w rs into)
  read_long true t w rs into = even refl
  read_long false t w rs into = join (prepared_at t _) (moved_long c.scene.adts t _ _ _ _ _ _)

  put_long : (t : Ty) (o : isa.Operand) (part : List ℕ) (from : ℕ) → AsLong (put c t o part from) (put d t o part from)
  put_long ty.Nothing o part from = even refl
  put_long t o part from =
      let a = part_in_slot c.scene (c.told from) part from in
      moved_long c.scene.adts t (c.type_number (OfRecord t)) (types (OfRecord t)) a a o o

  put_or_zero_long : (u t : Ty) (o : isa.Operand) (part : List ℕ) (from : ℕ)
      → AsLong (put_or_zero c u t o part from) (put_or_zero d u t o part from)
  put_or_zero_long ty.Nothing t o part from = zeroed_long c.scene.adts t _ _ _ _ o
  put_or_zero_long u t o part from = put_long t o part from

  written_long : (b : Bool) (t : Ty) (w : Way) (rs part : List ℕ) (from : ℕ)
      → AsLong (written c b t w rs part from) (written d b t w rs part from)
  written_long true t w rs part from = even refl
  written_long false t w rs part from = put_or_zero_long (c.told from) t _ part from

  given_long : (t : Ty) (o : Work) (into : ℕ) (rs : List ℕ) → AsLong (given c t o into rs) (given d t o into rs)
  given_long t (tree.Literal x) into rs = literal_long c.scene t x into _ _ _ _
  given_long t tree.Nil into rs = even refl
  given_long t (tree.Read w) into rs = join same (read_long w.character t w rs into)
  given_long t (tree.Operate o) into rs = operated_long c.scene t rs into _ _ _ _ _ _ _ _ o
  given_long t tree.NewChannel into rs = even refl
  given_long t o into rs = even refl

  skipped_long : (k : Connective) (into : ℕ) (e : Option ℕ) (from : ℕ) (p p' : ℕ) → AsLong (skipped c k into e from p) (skipped d k into e from p')
  skipped_long k into None from p p' = even refl
  skipped_long k into (Some r) from p p' = even refl

  called_long : (t : Ty) (f into : ℕ) (o : Option ℕ) → AsLong (called c t f into o) (called d t f into o)
  called_long t f into o =
      let call : ℕ → Inst = λ pc. inst op.Call (own made_place) middle.None (operand.Imm (pos pc)) in
      more (join (arguments_long c.scene c.type_number types c.told o)
      (join (prepared_at t (reference c.scene into)) (last (answer_to c.scene (form_of t) into) (call (c.entries f)) (call (entries f)))))

  at_least_long : (xs ys : Code) → AsLong xs ys → AsLong (at_least c xs) (at_least d ys)
  at_least_long [] [] e = even refl
  at_least_long [] (y ∷ ys) e = absurd (let g = e.is in cc)
  at_least_long (x ∷ xs) [] e = absurd (let g = e.is in cc)
  at_least_long (x ∷ xs) (y ∷ ys) e = e

  changed_box_long : (t : Ty) (r : ℕ) (change change' : Code) → AsLong change change'
      → AsLong (changed_box c t r change) (changed_box d t r change')
  changed_box_long t r change change' e = more (join (moved_long c.scene.adts t _ _ _ _ _ _) (join e (even refl)))

  let_one_go_long : (f : Form) (t : Ty) (r k : ℕ) → AsLong (let_one_go c f t r k) (let_one_go d f t r k)
  let_one_go_long AsReference t r k = even refl
  let_one_go_long Boxed t r k =
      let change = inst op.Movp nil_word middle.None (behind (spare c.scene) (offset_at c (names_at c.scene.adts t) k)) ∷ [] in
      changed_box_long t r change change same
  let_one_go_long f t r k = even refl

  returned_long : (r : Option ℕ) → AsLong (returned c r) (returned d r)
  returned_long None = zeroed_long c.scene.adts c.answer _ _ _ _ _
  returned_long (Some r) = moved_long c.scene.adts c.answer _ _ _ _ _ _

  code_long : (i : Instr) → AsLong (code_of c i) (code_of d i)
  code_long (core.Give t o into from) = given_long t o into from
  code_long (core.Place t v j k into from) = at_least_long _ _ (placed_long c.scene c.type_number types t v j k into from)
  code_long (core.Gather t o into zero) = begun_long c.scene c.type_number types _ _ _ into
  code_long (core.Gather t o into (suc n)) = even refl
  code_long (core.Pick t k into from) =
      join (prepared_at t _) (join (moved_long c.scene.adts t _ _ _ _ _ _)
      (changed_box_long (c.told from) from _ _ (zeroed_long c.scene.adts t _ _ _ _ _)))
  code_long (core.Known v into) = known_long c.scene v into _ _
  code_long (core.Write t w ops part from) = join same (written_long w.character t w ops part from)
  code_long (core.CopyInto array start from) = even refl
  code_long (core.Cell t into item b) =
      let cons : ℕ → Inst = λ n.
      inst (cons_op (has_references c.scene.adts t) t) (in_slot c.scene t item) (element_middle c.scene.adts t n) (reference c.scene into) in
      more (last (element_sized c.scene.adts t) (cons (c.type_number (OfValue t))) (cons (types (OfValue t))))
  code_long (core.Call t f into o) = called_long t f into o
  code_long (core.Print ps into o) = more (more (join (arguments_long c.scene c.type_number types c.told o) (even refl)))
  code_long (core.Skip k into decision from n) = skipped_long k into decision from _ _
  code_long (core.Truth into from) = even refl
  code_long (core.Element t array index from) = more (moved_long c.scene.adts t _ _ _ _ _ _)
  code_long (core.Start l) = even refl
  code_long (core.Next array l named n) = more (more (more (searched_long c.scene (sorted named) _ _ _ _ l _ _)))
  code_long (core.Other t array l from) = more (more (moved_long c.scene.adts t _ _ _ _ _ _))
  code_long (core.Keep l from words) = even refl
  code_long (core.Take l from words n) = even refl
  code_long (core.Drop r k) = let_one_go_long (form_of (c.told r)) (c.told r) r k
  code_long (core.Mirror e n) = even refl
  code_long (core.Unless r n) = even refl
  code_long (core.Jump n) = even refl
  code_long (core.Back n) = even refl
  code_long (core.Return r) = join (returned_long r) (even refl)

pub sizes_agree : (c d : Site) (i : Instr) → SeeTheSame c d → length (code_of c i) ≡ length (code_of d i)
sizes_agree c d i s =
    (code_long c d.entries d.type_number d.frame_number d.here d.past d.back d.at i).is
    ∙ λ j. length (code_of
    (record d { scene = s.scene j; answer = s.answer j; told = s.told j }) i)
