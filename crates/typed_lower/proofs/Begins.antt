-- Where the code begins a statement, it goes on as the program does: statements without loops.
use Rattle.std.proofs.Common.{◌≡◌, ℕ, zero, suc, ◌+◌, Bool, true, false, List, [], ◌∷◌, ◌++◌, length, Some, refl, sym, ap, ◌∙◌, subst}
use Rattle.std.proofs.Common.{arith}
use Rattle.std.proofs.Common.{length-append}
use Rattle.std.specs.Prelude.{slice_get}
use Rattle.process_model.specs.Process.{Went}
use Rattle.process_model.specs.Alone.{here, on}
use Rattle.limbo_values.specs.declared.number.Kind.{Kind}
use Rattle.limbo_typed.specs.declared.operation.Operation.{Operation}
use Rattle.limbo_typed.specs.declared.operation.Given.{Given}
use Rattle.system_model.specs.Values.{Value}
use Rattle.typed_meaning.specs.Values.{holds}
use Rattle.typed_meaning.specs.World.{World}
use Rattle.typed_meaning.specs.Trees.{Local, Global, Place, At, Term, Evaluated, Apply, Store}
use Rattle.typed_meaning.specs.Trees.{Change, Put, Terms, NoTerms, MoreTerms, Over, Eval, Set, If, Return}
use Rattle.typed_meaning.specs.Trees.{Block, Then, join}
use Rattle.typed_meaning.specs.Program.{Routine}
use Rattle.typed_meaning.specs.Evaluation.{stored_at, given_by}
use Rattle.slot_code.specs.Code.{Spot, Temporary, Operand, In, Number, Inst, Move, Jump, Function}
use Rattle.slot_code.specs.Code as code
use Rattle.slot_code.specs.Machine.{Frame, moved, stored, value_of, with_frames}
use Rattle.typed_meaning.specs.Step.{chosen as source_chosen}
use Rattle.typed_lower.specs.Kinds.{spot_of, kind_in, writes, is_at}
use Rattle.typed_lower.specs.Terms.{part_of, parts_of, applied, ready, one, branches}
use Rattle.typed_lower.specs.Statements.{effects, moves}
use Rattle.typed_lower.specs.Stands as stands
use Rattle.typed_lower.specs.Stands.{Fresh, HasAt, beside, sourced, Bursts, Quiet, Does, Stands, Going}
use Rattle.typed_lower.proofs.Contexts.{within_hole, in_eval, in_set, in_if, in_return, in_store}
use Rattle.typed_lower.proofs.Places.{has_front, has_back, has_at, put_same}
use Rattle.typed_lower.proofs.Operands.{changing, read_it, write_going}
use Rattle.typed_lower.proofs.Parts.{ValueGoes, Decides, Written, with_temporary, ready_goes}
use Rattle.typed_lower.proofs.Values.{Becomes, store_step, put_step, stored_after, stored_temporaries, applied_one, applied_two, two_few}
use Rattle.typed_lower.proofs.Expressions.{goes}

module _ (routines : List Routine) (functions : List Function) (codes : List Inst) where
  abbrev pub D : ℕ → Block → Type 0
  D pc todo = Does routines functions codes pc todo

  abbrev pub G : Frame → Block → Type 0
  G g todo = Going routines functions codes g todo

  abbrev pub S : Frame → Block → Type 0
  S g todo = Stands routines functions codes g todo

  abbrev Q : Frame → Block → Block → Type 0
  Q g todo todo' = Quiet routines functions g todo todo'

  -- Outside of statements.
  pub stands_at : (g : Frame) (pc : ℕ) (todo : Block) → g.made ≡ [] → g.pc ≡ pc → D pc todo → S g todo
  stands_at g pc todo none at d = stands.outside g todo none (subst (λ q. D q todo) (sym at) d)

  abbrev pub Bursts1 : Frame → Block → Block → Type 0
  Bursts1 g todo after = (w : World) → Bursts routines functions 1 w g todo w g after

  one_some : suc zero ≡ zero → ⊥
  one_some e = omega (arith, e)

  -- A jump to this place, which is a step of the program.
  pub jump_going : (i : Inst) (g : Frame) (pc : ℕ) (todo after : Block) → slice_get codes g.pc ≡ Some i
      → ((w : World) (n : ℕ) (gs : List Frame) (p : _)
      → stands.obeys routines functions w (stands.coded n g gs p) i ≡ Went w (with_frames (stands.coded n g gs p) (moved g pc) gs))
      → Bursts1 g todo after → S (moved g pc) after → G g todo
  jump_going i g pc todo after there does step st =
      stands.instruction g todo i there (λ w.
      stands.passes w g (moved g pc) todo after i 1 refl (does w) (step w) (λ z. absurd (one_some z)) st)

  -- ---- expressions that stand alone

  eval_ends : (g : Frame) (v : Value) (rest : Block) → Q g (Then (Eval (Evaluated v)) rest) rest
  eval_ends g v rest w n below = refl

  ends_there : (g : Frame) (v : Value) (pc : ℕ) (rest : Block) → g.made ≡ [] → g.pc ≡ pc → D pc rest → S g (Then (Eval (Evaluated v)) rest)
  ends_there g v pc rest none at d =
      stands.softly g (Then (Eval (Evaluated v)) rest) rest (eval_ends g v rest) (stands_at g pc rest none at d)

  -- A value that goes nowhere.
  plain_effects : (t : Term) → ValueGoes routines functions codes t → (k : Kind) (g : Frame) (rest : Block) → g.made ≡ []
      → HasAt codes g.pc ((part_of t).value 1 (Temporary k 0)) → D (g.pc + length ((part_of t).value 1 (Temporary k 0))) rest
      → G g (Then (Eval t) rest)
  plain_effects t its k g rest none has d =
      its 1 (Temporary k 0) (λ u. Then (Eval u) rest) g (in_eval routines rest) has (λ g' a w v. (
        0,
        stands.arrives 0 w g' (Temporary k 0) v (Then (Eval (Evaluated v)) rest) (Then (Eval (Evaluated v)) rest) (λ n below. here)
            (ends_there (with_temporary routines functions codes g' k 0 v) v _ rest (a.made ∙ none) a.place d),
      ))

  -- An assignment.
  store_effects : (p : Place) (t : Term) → ValueGoes routines functions codes t → (g : Frame) (rest : Block) → g.made ≡ []
      → HasAt codes g.pc ((part_of t).value 0 (spot_of p)) → D (g.pc + length ((part_of t).value 0 (spot_of p))) rest
      → G g (Then (Eval (Store p t)) rest)
  store_effects p t its g rest none has d =
      let cx = in_eval routines rest in
      let within : Term → Block = λ u. Then (Eval u) rest in
      its 0 (spot_of p) (λ u. Then (Eval (Store p u)) rest) g (within_hole routines within (Store p) cx (in_store p)) has (λ g' a w v.
      let g2 = (stored w g' (spot_of p) v).frame in
      let b = stored_after (λ x. is_at (Local x) p) 0 w g' p v (λ x e. e) in (
        1,
        stands.arrives 1 w g' (spot_of p) v (Then (Eval (Store p (Evaluated v))) rest) (Then (Eval (Evaluated v)) rest)
            (store_step routines functions codes p v within cx w g')
            (ends_there g2 v _ rest (b.made ∙ a.made ∙ none) (b.place ∙ a.place) d),
      ))

  -- An assignment with an operator.
  put_ends : (o : Operation) (m : Given) (p : Place) (written : ℕ → Bool) (d pc : ℕ) (g : Frame) (rest : Block) → g.made ≡ [] → D pc rest
      → Becomes routines functions codes (λ vs v. Put p (stored_at p v) (given_by m vs v)) (spot_of p) (λ u. Then (Eval u) rest) written d
      pc g
  put_ends o m p written d pc g rest none does g' a w vs v =
      let cx = in_eval routines rest in
      let y = given_by m vs v in
      let g2 = (stored w g' (spot_of p) v).frame in
      let b = stored_after (λ x. is_at (Local x) p) 0 w g' p v (λ x e. e) in (
        1,
        stands.arrives 1 w g' (spot_of p) v (Then (Eval (Put p (stored_at p v) y)) rest) (Then (Eval (Evaluated y)) rest)
            (put_step routines functions codes p v y (λ u. Then (Eval u) rest) cx w g')
            (ends_there g2 y _ rest (b.made ∙ a.made ∙ none) (b.place ∙ a.place) does),
      )

  change_effects : (o : Operation) (m : Given) (p : Place) (ts : Terms) → Fresh (Change o m p ts) → (g : Frame) (rest : Block) → g.made ≡ []
      → HasAt codes g.pc (applied o (parts_of ts) 0 (spot_of p)) → D (g.pc + length (applied o (parts_of ts) 0 (spot_of p))) rest
      → G g (Then (Eval (Change o m p ts)) rest)
  change_effects o m p (MoreTerms a NoTerms) f g rest none has d =
      let W = Written routines functions codes a in
      applied_one routines functions codes (Change o m p) o (λ vs v. Put p (stored_at p v) (given_by m vs v)) a
      (changing routines functions codes o m p) (goes routines functions codes a f.0.0).0 W (λ x e. e) 0 (spot_of p)
      (λ u. Then (Eval u) rest) g
      (in_eval routines rest) has (put_ends o m p W 0 _ g rest none d)
  change_effects o m p (MoreTerms a (MoreTerms b NoTerms)) f g rest none has d =
      let W : ℕ → Bool = λ x. writes (Local x) (Apply o (MoreTerms a (MoreTerms b NoTerms))) in
      applied_two routines functions codes (Change o m p) o (λ vs v. Put p (stored_at p v) (given_by m vs v)) a b
      (changing routines functions codes o m p) f.0.1.0 (goes routines functions codes a f.0.0).0
      (goes routines functions codes b f.0.1.0).0 W
      (λ x e. two_few (writes (Local x) a) (writes (Local x) b) e) 0 (spot_of p) (λ u. Then (Eval u) rest) g
      (in_eval routines rest) has (put_ends o m p W 0 _ g rest none d)
  change_effects o m p ts f g rest none has d = absurd f.1

  pub effects_going : (t : Term) → Fresh t → (g : Frame) (rest : Block) → g.made ≡ [] → HasAt codes g.pc (effects t)
      → D (g.pc + length (effects t)) rest → G g (Then (Eval t) rest)
  effects_going (Store p t) f g rest none has d = store_effects p t (goes routines functions codes t f).0 g rest none has d
  effects_going (Change o m p ts) f g rest none has d = change_effects o m p ts f g rest none has d
  effects_going t f g rest none has d = plain_effects t (goes routines functions codes t f).0 (kind_in t) g rest none has d

  -- ---- conditions

  if_chooses : (g : Frame) (v : Value) (b : Bool) (x y rest : Block) → holds v ≡ b
      → Q g (Then (If (Evaluated v) x y) rest) (Then Over (join (source_chosen b x y) (Then Over rest)))
  if_chooses g v b x y rest e w n below =
      ap (λ c. Went w (sourced n (beside g (Then Over (join (source_chosen c x y) (Then Over rest)))) below)) e

  pub over_ends : (g : Frame) (rest : Block) → Q g (Then Over rest) rest
  over_ends g rest w n below = refl

  pub over_there : (g : Frame) (pc : ℕ) (rest : Block) → g.made ≡ [] → g.pc ≡ pc → D pc rest → S g (Then Over rest)
  over_there g pc rest none at d = stands.softly g (Then Over rest) rest (over_ends g rest) (stands_at g pc rest none at d)

  pub if_going : (n : ℕ) (t : Term) (x y rest : Block) → Fresh t → (g : Frame) → g.made ≡ [] → HasAt codes g.pc (branches false 0 t n)
      → D (g.pc + length (branches false 0 t n)) (join x (Then Over rest)) → D (g.pc + length (branches false 0 t n) + n)
      (join y (Then Over rest))
      → G g (Then (If t x y) rest)
  if_going n t x y rest f g none has d e =
      (goes routines functions codes t f).1 false 0 n (λ u. Then (If u x y) rest) g (in_if routines x y rest) has leads
    where
      leads : Decides routines functions codes (λ u. Then (If u x y) rest) (Written routines functions codes t) false 0
          (g.pc + length (branches false 0 t n)) n g
      leads g' true v a same = (
        Then Over (join x (Then Over rest)),
        if_chooses g' v true x y rest same,
        over_there g' _ (join x (Then Over rest)) (a.made ∙ none) a.place d,
      )
      leads g' false v a same = (
        Then Over (join y (Then Over rest)),
        if_chooses g' v false x y rest same,
        over_there g' _ (join y (Then Over rest)) (a.made ∙ none) a.place e,
      )

  -- ---- returns

  pub return_going : (t : Term) (rest : Block) → Fresh t → (g : Frame) → HasAt codes g.pc (one (ready 0 (part_of t)) code.Return)
      → G g (Then (Return t) rest)
  return_going t rest f g has =
      let r = ready 0 (part_of t) in
      let i = code.Return r.operand in
      ready_goes routines functions codes t (goes routines functions codes t f).0 0 (λ u. Then (Return u) rest) g (in_return routines rest)
      (has_front codes g.pc r.before (i ∷ []) has) (λ g' u a h.
      stands.instruction g' (Then (Return u) rest) i
      (has_at codes _ _ (i ∷ []) (sym a.place) (has_back codes g.pc r.before (i ∷ []) has)).0 (λ w.
      let q = read_it routines functions codes (λ u. Then (Return u) rest) (in_return routines rest) w g' r.operand u h in
      stands.answers w g' (Then (Return u) rest) (Then (Return (Evaluated (value_of w g' r.operand))) rest) i q.0 (value_of w g' r.operand)
      (λ n gs p. refl) q.1 (λ n below. refl)))

  -- ---- values that places get

  pub set_ends : (g : Frame) (v : Value) (rest : Block) → Q g (Then (Set [] (Evaluated v)) rest) rest
  set_ends g v rest w n below = refl

  set_step : (p : Place) (ps : List Place) (v : Value) (rest : Block) (w : World) (g : Frame)
      → Bursts routines functions 1 w g (Then (Set (p ∷ ps) (Evaluated v)) rest) (stored w g (spot_of p) v).world
      (stored w g (spot_of p) v).frame (Then (Set ps (Evaluated v)) rest)
  set_step (At t (Local x)) ps v rest w g n below = on refl here
  set_step (At t (Global x)) ps v rest w g n below = on refl here

  -- An operand that writes to places leave as it is.
  abbrev Firm : Operand → Type 0
  Firm x =
      (w : World) (g : Frame) (p : Place) (v : Value) → (w1 : World)
      → value_of w1 (stored w (moved g (suc g.pc)) (spot_of p) v).frame x ≡ value_of w1 g x

  temporary_firm : (k : Kind) → Firm (In (Temporary k 0))
  temporary_firm k w g p v w1 = stored_temporaries w (moved g (suc g.pc)) p v k 0

  pub number_firm : (z : _) → Firm (Number z)
  number_firm z w g p v w1 = refl

  pub first_move : (p : Place) (ps : List Place) (x : Operand) (v : Value) (rest : Block) (g : Frame) → ((w : World) → value_of w g x ≡ v)
      → slice_get codes g.pc ≡ Some (Move (spot_of p) x)
      → ((w : World) → S (stored w (moved g (suc g.pc)) (spot_of p) v).frame (Then (Set ps (Evaluated v)) rest))
      → G g (Then (Set (p ∷ ps) (Evaluated v)) rest)
  first_move p ps x v rest g held there st =
      write_going routines functions codes (spot_of p) x v (Evaluated v) (λ u. Then (Set (p ∷ ps) u) rest) g held there (λ w. (
        1,
        stands.arrives 1 w (moved g (suc g.pc)) (spot_of p) v (Then (Set (p ∷ ps) (Evaluated v)) rest) (Then (Set ps (Evaluated v)) rest)
            (set_step p ps v rest w (moved g (suc g.pc))) (st w),
        one_some,
      ))

  pub moves_stand : (ps : List Place) (x : Operand) → Firm x → (v : Value) (rest : Block) (g : Frame) → ((w : World) → value_of w g x ≡ v)
      → g.made ≡ [] → HasAt codes g.pc (moves ps x) → D (g.pc + length (moves ps x)) rest → S g (Then (Set ps (Evaluated v)) rest)
  moves_stand [] x firm v rest g held none has d =
      stands.softly g (Then (Set [] (Evaluated v)) rest) rest (set_ends g v rest)
      (stands_at g (g.pc + 0) rest none (omega arith) d)
  moves_stand (p ∷ ps) x firm v rest g held none has d =
      stands.going g (Then (Set (p ∷ ps) (Evaluated v)) rest)
      (first_move p ps x v rest g held has.0 (λ w.
      let g1 = moved g (suc g.pc) in
      let a = stored_after (λ y. is_at (Local y) p) 0 w g1 p v (λ y e. e) in
      moves_stand ps x firm v rest (stored w g1 (spot_of p) v).frame (λ w1. firm w g p v w1 ∙ held w1) (a.made ∙ none)
      (has_at codes _ _ (moves ps x) (sym a.place) has.1) (subst (λ q. D q rest) (omega (arith, a.place)) d)))

  -- One place.
  pub one_set : (p : Place) (t : Term) → ValueGoes routines functions codes t → (g : Frame) (rest : Block) → g.made ≡ []
      → HasAt codes g.pc ((part_of t).value 0 (spot_of p)) → D (g.pc + length ((part_of t).value 0 (spot_of p))) rest
      → G g (Then (Set (p ∷ []) t) rest)
  one_set p t its g rest none has d =
      its 0 (spot_of p) (λ u. Then (Set (p ∷ []) u) rest) g (in_set routines (p ∷ []) rest) has (λ g' a w v.
      let g2 = (stored w g' (spot_of p) v).frame in
      let b = stored_after (λ x. is_at (Local x) p) 0 w g' p v (λ x e. e) in (
        1,
        stands.arrives 1 w g' (spot_of p) v (Then (Set (p ∷ []) (Evaluated v)) rest) (Then (Set [] (Evaluated v)) rest)
            (set_step p [] v rest w g')
            (stands.softly g2 (Then (Set [] (Evaluated v)) rest) rest (set_ends g2 v rest)
            (stands_at g2 _ rest (b.made ∙ a.made ∙ none) (b.place ∙ a.place) d)),
      ))

  -- Some places, by a temporary.
  pub kept_sets : (ps : List Place) (t : Term) → ValueGoes routines functions codes t → (k : Kind) (g : Frame) (rest : Block) → g.made ≡ []
      → HasAt codes g.pc ((part_of t).value 1 (Temporary k 0) ++ moves ps (In (Temporary k 0)))
      → D (g.pc + length ((part_of t).value 1 (Temporary k 0) ++ moves ps (In (Temporary k 0)))) rest → G g (Then (Set ps t) rest)
  kept_sets ps t its k g rest none has d =
      let X = In (Temporary k 0) in
      let A = (part_of t).value 1 (Temporary k 0) in
      its 1 (Temporary k 0) (λ u. Then (Set ps u) rest) g (in_set routines ps rest) (has_front codes g.pc A (moves ps X) has) (λ g' a w v.
      let g1 = with_temporary routines functions codes g' k 0 v in (
        0,
        stands.arrives 0 w g' (Temporary k 0) v (Then (Set ps (Evaluated v)) rest) (Then (Set ps (Evaluated v)) rest) (λ n below. here)
            (moves_stand ps X (temporary_firm k) v rest g1 (λ w1. put_same g'.temporaries k 0 v) (a.made ∙ none)
            (has_at codes _ _ (moves ps X) (sym a.place) (has_back codes g.pc A (moves ps X) has))
            (subst (λ q. D q rest) (omega (arith, length-append A (moves ps X), a.place)) d)),
      ))
