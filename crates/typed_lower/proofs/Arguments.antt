-- The code of arguments gives them to the call, or the print, that is made ready.
use Rattle.std.proofs.Common.{◌≡◌, ℕ, zero, suc, ◌+◌, ◌≤◌, Bool, true, false, List, [], ◌∷◌, ◌++◌, length, Some, refl, sym, ap, ◌∙◌}
use Rattle.std.proofs.Common.{subst, arith}
use Rattle.std.proofs.Common.{length-append}
use Rattle.std.specs.Prelude.{slice_get, nat_eq, if◌then◌else◌}
use Rattle.std.proofs.lemmas.Bool.{eq-eqb, eqb-true}
use Rattle.process_model.specs.Alone.{here}
use Rattle.limbo_typed.specs.declared.print.Piece.{Piece}
use Rattle.system_model.specs.Values.{Value}
use Rattle.typed_meaning.specs.World.{World}
use Rattle.typed_meaning.specs.Trees.{Local, Place, Term, Evaluated, Terms, NoTerms, MoreTerms, Block}
use Rattle.typed_meaning.specs.Program.{Routine}
use Rattle.typed_meaning.specs.Evaluation.{Finished, after, next_all, fill_all}
use Rattle.slot_code.specs.Code.{Temporary, Argument, In, Inst, Hand, Function}
use Rattle.slot_code.specs.Machine.{Frame, Made, moved, given, with_argument, no_arguments, taken}
use Rattle.slot_code.specs.Step as code_step
use Rattle.typed_lower.specs.Kinds.{writes, write}
use Rattle.typed_lower.specs.Terms.{part_of, parts_of, first_put, all_put, made_ready, count}
use Rattle.typed_lower.specs.Stands as stands
use Rattle.typed_lower.specs.Stands.{AllFresh, HasAt, is_silent, run_to, coded, obeys, Stands, Going}
use Rattle.typed_lower.proofs.Contexts.{Hole, HoleAmong, Context, within_hole, first_among, later_among, fresh_fill_all}
use Rattle.typed_lower.proofs.Places.{has_front, has_back, has_at, After, after_itself, after_weaker}
use Rattle.typed_lower.proofs.Follows.{silent_rises}
use Rattle.typed_lower.proofs.Operands.{hand_going}
use Rattle.typed_lower.proofs.Parts.{ValueGoes, Written, kept_goes, either_false}

-- ---- values in front of trees

abbrev pub prefixed : List Value → Terms → Terms
prefixed [] ts = ts
prefixed (v ∷ vs) ts = MoreTerms (Evaluated v) (prefixed vs ts)

prefixed_more : (vs : List Value) (v : Value) (ts : Terms) → prefixed (vs ++ v ∷ []) ts ≡ prefixed vs (MoreTerms (Evaluated v) ts)
prefixed_more [] v ts = refl
prefixed_more (x ∷ vs) v ts = ap (MoreTerms (Evaluated x)) (prefixed_more vs v ts)

pub all_evaluated : (r : Place → Value) (vs : List Value) → next_all r (prefixed vs NoTerms) ≡ Finished vs
all_evaluated r [] = refl
all_evaluated r (v ∷ vs) =
    ap (λ g. after g (λ us. Finished (v ∷ us)) (λ ts. MoreTerms (Evaluated v) ts)) (all_evaluated r vs)

among_prefixed : (vs : List Value) (ts : Terms) → ((v : Value) → fill_all v ts ≡ ts) → HoleAmong (λ t. prefixed vs (MoreTerms t ts))
among_prefixed [] ts f = first_among ts f
among_prefixed (x ∷ vs) ts f = later_among x (λ t. prefixed vs (MoreTerms t ts)) (among_prefixed vs ts f)

-- ---- arguments

other_by : (n k : ℕ) (a b : Value) → (k ≡ n → ⊥) → (c : Bool) → nat_eq n k ≡ c → (if nat_eq n k then a else b) ≡ b
other_by n k a b ne true e = absurd (ne (sym (eqb-true n k e)))
other_by n k a b ne false e = ap (λ c. if c then a else b) e

if_other : (n k : ℕ) (a b : Value) → (k ≡ n → ⊥) → (if nat_eq n k then a else b) ≡ b
if_other n k a b ne = other_by n k a b ne (nat_eq n k) refl

taken_others : (f : ℕ → Value) (n : ℕ) (v : Value) (i j : ℕ) → i + j ≤ n → taken (λ k. if nat_eq n k then v else f k) i j ≡ taken f i j
taken_others f n v i zero l = refl
taken_others f n v i (suc j) l =
    ap (λ x. x ∷ taken (λ k. if nat_eq n k then v else f k) (suc i) j) (if_other n i v (f i) (λ e. absurd (omega (arith, e, l))))
    ∙ ap (λ xs. f i ∷ xs) (taken_others f n v (suc i) j (omega (arith, l)))

taken_more : (f : ℕ → Value) (i j : ℕ) → taken f i (suc j) ≡ taken f i j ++ f (i + j) ∷ []
taken_more f i zero = ap (λ k. f k ∷ []) (omega arith)
taken_more f i (suc j) = ap (λ xs. f i ∷ xs) (taken_more f (suc i) j ∙ ap (λ k. taken f (suc i) j ++ f k ∷ []) (omega arith))

-- One argument more.
given_more : (m : Made) (vs : List Value) (v : Value) → taken m.arguments 0 (length vs) ≡ vs
    → taken (with_argument (length vs) v m).arguments 0 (length (vs ++ v ∷ [])) ≡ vs ++ v ∷ []
given_more m vs v e =
    let n = length vs in
    let f : ℕ → Value = λ k. if nat_eq n k then v else m.arguments k in
    let more : length (vs ++ v ∷ []) ≡ suc n = omega (arith, length-append vs (v ∷ [])) in
    let one : taken f 0 (length (vs ++ v ∷ [])) ≡ taken f 0 (suc n) =
    ap (λ k. taken f 0 k) more in
    let two : taken f 0 (suc n) ≡ taken f 0 n ++ f (0 + n) ∷ [] = taken_more f 0 n in
    let zero_first : 0 + n ≡ n = omega arith in
    let three : taken f 0 n ++ f (0 + n) ∷ [] ≡ taken f 0 n ++ f n ∷ [] = ap (λ k. taken f 0 n ++ f k ∷ []) zero_first in
    let four : taken f 0 n ≡ vs = taken_others m.arguments n v 0 n (omega arith) ∙ e in
    let five : f n ≡ v = ap (λ b. if b then v else m.arguments n) (eq-eqb n n refl) in
    one ∙ two ∙ three ∙ ap (λ xs. xs ++ f n ∷ []) four ∙ ap (λ x. vs ++ x ∷ []) five

-- ---- frames where a call is being made ready

-- So many arguments have been given; all else is as it was.
pub record Making (written : ℕ → Bool) (d pc : ℕ) (ps : List Piece) (vs : List Value) (g g' : Frame) : Type 0 where
  pub others : After written d pc g (record g' { made = g.made })
  pub made : Made
  pub is : g'.made ≡ made ∷ g.made
  pub format : made.format ≡ ps
  pub holds : taken made.arguments 0 (length vs) ≡ vs

-- Code that makes nothing ready runs on.
runs_on : (written : ℕ → Bool) (d pc pc' : ℕ) (ps : List Piece) (vs : List Value) (g g1 g2 : Frame) → Making written d pc ps vs g g1
    → After written d pc' g1 g2 → Making written d pc' ps vs g g2
runs_on written d pc pc' ps vs g g1 g2 m a = record {
  others = record {
    place = a.place;
    function = a.function ∙ m.others.function;
    instance = a.instance ∙ m.others.instance;
    made = refl;
    low = λ k n l. a.low k n l ∙ m.others.low k n l;
    kept = λ x e. a.kept x e ∙ m.others.kept x e;
  };
  made = m.made;
  is = a.made ∙ m.is;
  format = m.format;
  holds = m.holds;
}

-- A value is given.
one_given : (written : ℕ → Bool) (d pc : ℕ) (ps : List Piece) (vs : List Value) (v : Value) (g g' : Frame) → Making written d pc ps vs g g'
    → Making written d pc ps (vs ++ v ∷ []) g (record g' { made = given (length vs) v g'.made })
one_given written d pc ps vs v g g' m = record {
  others = record {
    place = m.others.place;
    function = m.others.function;
    instance = m.others.instance;
    made = refl;
    low = m.others.low;
    kept = m.others.kept;
  };
  made = with_argument (length vs) v m.made;
  is = ap (λ ms. given (length vs) v ms) m.is;
  format = m.format;
  holds = given_more m.made vs v m.holds;
}

module _ (routines : List Routine) (functions : List Function) (codes : List Inst) where
  abbrev V : Term → Type 0
  V t = ValueGoes routines functions codes t

  abbrev G : Frame → Block → Type 0
  G g todo = Going routines functions codes g todo

  abbrev W : Term → ℕ → Bool
  W t = Written routines functions codes t

  abbrev pub AllGo : Terms → Type 0
  AllGo NoTerms = Unit {0}
  AllGo (MoreTerms t ts) = V t × AllGo ts

  module _ (whole : Terms → Term) (holes : (wrap : Term → Terms) → HoleAmong wrap → Hole (λ t. whole (wrap t))) (ps : List Piece)
      (within : Term → Block) (cx : Context routines within) (written : ℕ → Bool) (g : Frame) where
    abbrev todo : List Value → Terms → Block
    todo vs ts = within (whole (prefixed vs ts))

    at_next : (vs : List Value) (ts : Terms) → AllFresh ts → Context routines (λ t. todo vs (MoreTerms t ts))
    at_next vs ts f =
        within_hole routines within (λ t. whole (prefixed vs (MoreTerms t ts))) cx
        (holes (λ t. prefixed vs (MoreTerms t ts)) (among_prefixed vs ts (λ v. fresh_fill_all v ts f)))

    -- What stands behind all arguments.
    abbrev pub Ends : (d pc : ℕ) → (number : ℕ) → Type 0
    Ends d pc n =
        (g' : Frame) (vs : List Value) → length vs ≡ n → Making written d pc ps vs g g' → G g' (within (whole (prefixed vs NoTerms)))

    ends_at : (d pc pc' n n' : ℕ) → pc ≡ pc' → n ≡ n' → Ends d pc n → Ends d pc' n'
    ends_at d pc pc' n n' e f h = subst (λ q. Ends d q n') e (subst (λ m. Ends d pc m) f h)

    puts : (ts : Terms) → AllFresh ts → AllGo ts → ((x : ℕ) → written x ≡ false → write (Local x) ts ≡ false) → (d pc : ℕ)
        (vs : List Value) (g1 : Frame) → Making written d pc ps vs g g1
        → HasAt codes pc (all_put (length vs) (parts_of ts) d)
        → Ends d (pc + length (all_put (length vs) (parts_of ts) d)) (length vs + count ts) → G g1 (todo vs ts)
    puts NoTerms f go few d pc vs g1 m has ends =
        ends g1 vs (omega arith)
        (subst (λ q. Making written d q ps vs g g1) (omega arith) m)
    puts (MoreTerms t ts) f go few d pc vs g1 m has ends =
        let A = (part_of t).value d (Argument (part_of t).kind (length vs)) in
        let R = all_put (suc (length vs)) (parts_of ts) d in
        let at : g1.pc ≡ pc = m.others.place in
        go.0 d (Argument (part_of t).kind (length vs)) (λ u. todo vs (MoreTerms u ts)) g1 (at_next vs ts f.1)
        (has_at codes _ _ A (sym at) (has_front codes pc A R has)) (λ g2 a w v.
        let few_t : (x : ℕ) → written x ≡ false → writes (Local x) t ≡ false =
        λ x e. (either_false (writes (Local x) t) (write (Local x) ts) (few x e)).0 in
        let few_ts : (x : ℕ) → written x ≡ false → write (Local x) ts ≡ false =
        λ x e. (either_false (writes (Local x) t) (write (Local x) ts) (few x e)).1 in
        let m2 = runs_on written d pc (g1.pc + length A) ps vs g g1 g2 m (after_weaker (W t) written d d _ g1 g2 few_t (omega arith) a) in
        let g3 = record g2 { made = given (length vs) v g2.made } in
        let m3 = one_given written d (g1.pc + length A) ps vs v g g2 m2 in
        let next : length (vs ++ v ∷ []) ≡ suc (length vs) = omega (arith, length-append vs (v ∷ [])) in (
          0,
          stands.arrives 0 w g2 (Argument (part_of t).kind (length vs)) v (todo vs (MoreTerms (Evaluated v) ts))
              (todo vs (MoreTerms (Evaluated v) ts)) (λ n below. here)
              (stands.going g3 (todo vs (MoreTerms (Evaluated v) ts))
              (subst (λ us. G g3 (within (whole us))) (prefixed_more vs v ts)
              (puts ts f.1 go.1 few_ts d (g1.pc + length A) (vs ++ v ∷ []) g3 m3
              (subst (λ n. HasAt codes (g1.pc + length A) (all_put n (parts_of ts) d)) (sym next)
              (has_at codes _ _ R (ap (λ q. q + length A) (sym at)) (has_back codes pc A R has)))
              (subst (λ n. Ends d (g1.pc + length A + length (all_put n (parts_of ts) d)) (n + count ts)) (sym next)
              (ends_at d (pc + length (A ++ R)) _ (length vs + suc (count ts)) _ (omega (arith, at, length-append A R)) (omega arith)
              ends))))),
        ))

    -- ---- the call, or the print, is made ready

    abbrev begun : Frame → Frame
    begun g1 = record g1 { pc = suc g1.pc; made = (record { arguments = no_arguments; format = ps }) ∷ g1.made }

    begun_making : (d pc : ℕ) (g1 : Frame) → After written d pc g g1 → Making written d (suc pc) ps [] g (begun g1)
    begun_making d pc g1 a = record {
      others = record {
        place = ap suc a.place;
        function = a.function;
        instance = a.instance;
        made = refl;
        low = a.low;
        kept = a.kept;
      };
      made = record { arguments = no_arguments; format = ps };
      is = ap (λ ms. (record { arguments = no_arguments; format = ps }) ∷ ms) a.made;
      format = refl;
      holds = refl;
    }

    -- The instruction that does so, which stands for no step.
    abbrev pub Begins : Inst → Type 0
    Begins i =
        (is_silent i ≡ true) × ((w : World) (n : ℕ) (g1 : Frame) (gs : List Frame) (p : _)
        → obeys routines functions w (coded n g1 gs p) i ≡ code_step.begins w (coded n g1 gs p) ps)

    begin_going : (i : Inst) → Begins i → (g1 : Frame) (b : Block) → slice_get codes g1.pc ≡ Some i
        → Stands routines functions codes (begun g1) b → G g1 b
    begin_going i its g1 b there st =
        stands.instruction g1 b i there (λ w.
        stands.passes w g1 (begun g1) b b i 0 refl (λ n gs p. its.1 w n g1 gs p) (λ n below. here)
        (λ z. silent_rises g1.pc codes i there its.0) st)

    abbrev Few : Terms → Type 0
    Few ts = (x : ℕ) → written x ≡ false → write (Local x) ts ≡ false

    -- The first argument comes before, as it makes a call.
    first_calls : (i : Inst) → Begins i → (t : Term) (ts : Terms) → AllFresh (MoreTerms t ts) → AllGo (MoreTerms t ts)
        → Few (MoreTerms t ts) → (d : ℕ) → HasAt codes g.pc (first_put true (part_of t) i d ++ all_put 1 (parts_of ts) d)
        → Ends d (g.pc + length (first_put true (part_of t) i d ++ all_put 1 (parts_of ts) d)) (suc (count ts)) → G g
        (todo [] (MoreTerms t ts))
    first_calls i its t ts f go few d has ends =
        let k = (part_of t).kind in
        let X = (part_of t).value (suc d) (Temporary k d) in
        let H = Hand (Argument k 0) (In (Temporary k d)) in
        let R = all_put 1 (parts_of ts) d in
        let F = X ++ i ∷ H ∷ [] in
        let end : g.pc + length X + 2 + length R ≡ g.pc + length (F ++ R) =
        omega (arith, length-append F R, length-append X (i ∷ H ∷ [])) in
        let later : HasAt codes (g.pc + length X + 2) R =
        has_at codes _ _ R (omega (arith, length-append X (i ∷ H ∷ []))) (has_back codes g.pc F R has) in
        let these : HasAt codes (g.pc + length X) (i ∷ H ∷ []) = has_back codes g.pc X (i ∷ H ∷ []) (has_front codes g.pc F R has) in
        let few_t : (x : ℕ) → written x ≡ false → writes (Local x) t ≡ false =
        λ x e. (either_false (writes (Local x) t) (write (Local x) ts) (few x e)).0 in
        let few_ts : (x : ℕ) → written x ≡ false → write (Local x) ts ≡ false =
        λ x e. (either_false (writes (Local x) t) (write (Local x) ts) (few x e)).1 in
        kept_goes routines functions codes t go.0 k d (λ u. todo [] (MoreTerms u ts)) g (at_next [] ts f.1)
        (has_front codes g.pc X (i ∷ H ∷ []) (has_front codes g.pc F R has)) (λ g1 v a h.
        let m = begun_making d (g.pc + length X) g1 (after_weaker (W t) written d d _ g g1 few_t (omega arith) a) in
        let b = todo [] (MoreTerms (Evaluated v) ts) in
        begin_going i its g1 b (has_at codes _ _ (i ∷ H ∷ []) (sym a.place) these).0
        (stands.going (begun g1) b
        (hand_going routines functions codes (Argument k 0) (In (Temporary k d)) v (λ u. todo [] (MoreTerms u ts)) (begun g1)
        (at_next [] ts f.1) h (has_at codes _ _ (i ∷ H ∷ []) (sym a.place) these).1.0 (λ w.
        let g2 = moved (begun g1) (suc (suc g1.pc)) in
        let g3 = record g2 { made = given 0 v g2.made } in
        let m2 : Making written d (suc (suc g1.pc)) ps [] g g2 =
        runs_on written d (suc (g.pc + length X)) (suc (suc g1.pc)) ps [] g (begun g1) g2 m
        (record { place = refl; function = refl; instance = refl; made = refl; low = λ j n l. refl; kept = λ x e. refl }) in
        let at : suc (suc g1.pc) ≡ g.pc + length X + 2 = omega (arith, a.place) in (
          0,
          stands.arrives 0 w g2 (Argument k 0) v b b (λ n below. here)
              (stands.going g3 b
              (puts ts f.1 go.1 few_ts d (g.pc + length X + 2) (v ∷ []) g3
              (subst (λ q. Making written d q ps (v ∷ []) g g3) at (one_given written d (suc (suc g1.pc)) ps [] v g g2 m2)) later
              (ends_at d _ _ (suc (count ts)) (1 + count ts) (sym end) (omega arith) ends))),
        )))))

    first_by : (c : Bool) (i : Inst) → Begins i → (t : Term) (ts : Terms) → AllFresh (MoreTerms t ts) → AllGo (MoreTerms t ts)
        → Few (MoreTerms t ts) → (d : ℕ) → HasAt codes g.pc (first_put c (part_of t) i d ++ all_put 1 (parts_of ts) d)
        → Ends d (g.pc + length (first_put c (part_of t) i d ++ all_put 1 (parts_of ts) d)) (suc (count ts)) → G g
        (todo [] (MoreTerms t ts))
    first_by true i its t ts f go few d has ends = first_calls i its t ts f go few d has ends
    first_by false i its t ts f go few d has ends =
        let m = begun_making d g.pc g (after_itself written d g) in
        let P = all_put 0 (part_of t ∷ parts_of ts) d in
        begin_going i its g (todo [] (MoreTerms t ts)) has.0
        (stands.going (begun g) (todo [] (MoreTerms t ts))
        (puts (MoreTerms t ts) f go few d (suc g.pc) [] (begun g) m has.1
        (ends_at d (g.pc + length (first_put false (part_of t) i d ++ all_put 1 (parts_of ts) d)) _ (suc (count ts)) (0 + suc (count ts))
        (omega arith) (omega arith) ends)))

    pub made_goes : (i : Inst) → Begins i → (ts : Terms) → AllFresh ts → AllGo ts → Few ts → (d : ℕ)
        → HasAt codes g.pc (made_ready i (parts_of ts) d) → Ends d (g.pc + length (made_ready i (parts_of ts) d)) (count ts)
        → G g (within (whole ts))
    made_goes i its NoTerms f go few d has ends =
        let m = begun_making d g.pc g (after_itself written d g) in
        begin_going i its g (within (whole NoTerms)) has.0
        (stands.going (begun g) (within (whole NoTerms))
        (ends (begun g) [] refl (subst (λ q. Making written d q ps [] g (begun g)) (omega arith) m)))
    made_goes i its (MoreTerms t ts) f go few d has ends = first_by (part_of t).calls i its t ts f go few d has ends
