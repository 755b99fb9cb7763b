-- Where a part of a tree stands that is evaluated next.
use Rattle.std.proofs.Common.{◌≡◌, ℕ, List, [], ◌∷◌, refl, sym, ap, ◌∙◌, subst}
use Rattle.std.specs.Prelude.{slice_get}
use Rattle.process_model.specs.Process.{Ends}
use Rattle.system_model.specs.Values.{Value}
use Rattle.system_model.specs.Prints.{print}
use Rattle.system_model.specs.Ending.{Broken}
use Rattle.system_model.specs.Limits.{frames_limit}
use Rattle.limbo_types.specs.Types.{Ty, Int}
use Rattle.limbo_typed.specs.declared.operation.Operation.{Operation}
use Rattle.limbo_typed.specs.declared.operation.Given.{Given}
use Rattle.limbo_typed.specs.declared.operation.Connective.{Connective}
use Rattle.limbo_typed.specs.declared.print.Piece.{Piece}
use Rattle.typed_meaning.specs.Formats.{text_of}
use Rattle.typed_meaning.specs.World.{World}
use Rattle.typed_meaning.specs.Trees.{Place, Term, Evaluated, Awaiting, Missing, Literal, Read, Apply, Lazy, Deciding, Store, Change, Put}
use Rattle.typed_meaning.specs.Trees.{Call, Print, Terms, NoTerms, MoreTerms, Stm, Eval, Set, If, While, Return, Loop, Block, Then}
use Rattle.typed_meaning.specs.Program.{Routine}
use Rattle.typed_meaning.specs.Evaluation.{Progress, Finished, Stepped, Writes, Calls, Prints, Raises, Blocked, after, gives, next}
use Rattle.typed_meaning.specs.Evaluation.{next_all}
use Rattle.typed_meaning.specs.Evaluation.{fill, fill_all, fill_block, given_by, stored_at}
use Rattle.typed_meaning.specs.Values.{result_of}
use Rattle.typed_meaning.specs.Process as source
use Rattle.typed_meaning.specs.Process.{Process, Does, reads, stands_still, goes, written, calls, prints}
use Rattle.typed_meaning.specs.Step.{evaluate}
use Rattle.slot_code.specs.Machine.{Frame}
use Rattle.typed_lower.specs.Stands.{Fresh, AllFresh, beside, sourced, sstep}

-- ---- progress

abbrev pub NotDone : {R T : Type 0} → Progress R T → Type 0
NotDone (Finished v) = ⊥
NotDone _ = Unit {0}

-- The same of a tree around.
abbrev pub mapped : {R S T U : Type 0} → Progress R T → (T → U) → Progress S U
mapped (Finished v) f = Blocked
mapped (Stepped t) f = Stepped (f t)
mapped (Writes p v t) f = Writes p v (f t)
mapped (Calls g vs t) f = Calls g vs (f t)
mapped (Prints ps vs t) f = Prints ps vs (f t)
mapped (Raises text) f = Raises text
mapped Blocked f = Blocked

pub mapped_goes_on : (S : Type 0) {R T U : Type 0} (g : Progress R T) (f : T → U) → NotDone g → NotDone (mapped {S = S} g f)
mapped_goes_on S (Finished v) f n = absurd n
mapped_goes_on S (Stepped t) f n = tt
mapped_goes_on S (Writes p v t) f n = tt
mapped_goes_on S (Calls g vs t) f n = tt
mapped_goes_on S (Prints ps vs t) f n = tt
mapped_goes_on S (Raises text) f n = tt
mapped_goes_on S Blocked f n = tt

pub after_lifts : {R S T U : Type 0} (g : Progress R T) (go : R → Progress S U) (f : T → U) → NotDone g → after g go f ≡ mapped g f
after_lifts (Finished v) go f n = absurd n
after_lifts (Stepped t) go f n = refl
after_lifts (Writes p v t) go f n = refl
after_lifts (Calls g vs t) go f n = refl
after_lifts (Prints ps vs t) go f n = refl
after_lifts (Raises text) go f n = refl
after_lifts Blocked go f n = refl

pub after_mapped : {Q R S T U V : Type 0} (g : Progress R T) (f : T → U) (go : S → Progress Q V) (h : U → V) → NotDone g
    → after (mapped g f) go h ≡ mapped g (λ t. h (f t))
after_mapped (Finished v) f go h n = absurd n
after_mapped (Stepped t) f go h n = refl
after_mapped (Writes p v t) f go h n = refl
after_mapped (Calls g vs t) f go h n = refl
after_mapped (Prints ps vs t) f go h n = refl
after_mapped (Raises text) f go h n = refl
after_mapped Blocked f go h n = refl

-- ---- trees within trees

-- A tree around a part: while the part isn't evaluated, its step is that of the whole.
pub record Hole (wrap : Term → Term) : Type 0 where
  pub lifts : (r : Place → Value) (t : Term) → NotDone (next r t) → next r (wrap t) ≡ mapped (next r t) wrap
  pub fills : (v : Value) (t : Term) → fill v (wrap t) ≡ wrap (fill v t)

pub record HoleAmong (wrap : Term → Terms) : Type 0 where
  pub lifts : (r : Place → Value) (t : Term) → NotDone (next r t) → next_all r (wrap t) ≡ mapped (next r t) wrap
  pub fills : (v : Value) (t : Term) → fill_all v (wrap t) ≡ wrap (fill v t)

-- Nothing waits in a tree of which nothing is evaluated.
mutual
  pub fresh_fill : (v : Value) (t : Term) → Fresh t → fill v t ≡ t
  fresh_fill v (Evaluated x) f = absurd f
  fresh_fill v (Awaiting t) f = absurd f
  fresh_fill v Missing f = absurd f
  fresh_fill v (Literal t x) f = refl
  fresh_fill v (Read p) f = refl
  fresh_fill v (Apply o ts) f = ap (Apply o) (fresh_fill_all v ts f.0)
  fresh_fill v (Lazy c l r) f = ap (λ x. Lazy c x r) (fresh_fill v l f.0)
  fresh_fill v (Deciding r) f = absurd f
  fresh_fill v (Store p t) f = ap (Store p) (fresh_fill v t f)
  fresh_fill v (Change o g p ts) f = ap (Change o g p) (fresh_fill_all v ts f.0)
  fresh_fill v (Put p x y) f = absurd f
  fresh_fill v (Call t g ts) f = ap (Call t g) (fresh_fill_all v ts f)
  fresh_fill v (Print ps ts) f = ap (Print ps) (fresh_fill_all v ts f)

  pub fresh_fill_all : (v : Value) (ts : Terms) → AllFresh ts → fill_all v ts ≡ ts
  fresh_fill_all v NoTerms f = refl
  fresh_fill_all v (MoreTerms t ts) f =
      ap (λ x. MoreTerms x (fill_all v ts)) (fresh_fill v t f.0) ∙ ap (MoreTerms t) (fresh_fill_all v ts f.1)

pub first_among : (ts : Terms) → ((v : Value) → fill_all v ts ≡ ts) → HoleAmong (λ t. MoreTerms t ts)
first_among ts f = record {
  lifts = λ r t n. after_lifts (next r t) _ (λ u. MoreTerms u ts) n;
  fills = λ v t. ap (MoreTerms (fill v t)) (f v);
}

pub later_among : (x : Value) (wrap : Term → Terms) → HoleAmong wrap → HoleAmong (λ t. MoreTerms (Evaluated x) (wrap t))
later_among x wrap h = record {
  lifts = λ r t n.
      ap (λ g. after g (λ vs. Finished (x ∷ vs)) (λ ts. MoreTerms (Evaluated x) ts)) (h.lifts r t n)
      ∙ after_mapped (next r t) wrap _ (λ ts. MoreTerms (Evaluated x) ts) n;
  fills = λ v t. ap (MoreTerms (Evaluated x)) (h.fills v t);
}

pub in_apply : (o : Operation) (wrap : Term → Terms) → HoleAmong wrap → Hole (λ t. Apply o (wrap t))
in_apply o wrap h = record {
  lifts = λ r t n.
      ap (λ g. after g (λ vs. gives (result_of o vs) Evaluated) (Apply o)) (h.lifts r t n)
      ∙ after_mapped (next r t) wrap (λ vs. gives (result_of o vs) Evaluated) (Apply o) n;
  fills = λ v t. ap (Apply o) (h.fills v t);
}

pub in_change : (o : Operation) (g : Given) (p : Place) (wrap : Term → Terms) → HoleAmong wrap → Hole (λ t. Change o g p (wrap t))
in_change o g p wrap h = record {
  lifts = λ r t n.
      ap (λ x. after x (λ vs. gives (result_of o vs) (λ w. Put p (stored_at p w) (given_by g vs w))) (Change o g p)) (h.lifts r t n)
      ∙ after_mapped (next r t) wrap (λ vs. gives (result_of o vs) (λ w. Put p (stored_at p w) (given_by g vs w))) (Change o g p) n;
  fills = λ v t. ap (Change o g p) (h.fills v t);
}

pub in_call : (ty : Ty) (f : ℕ) (wrap : Term → Terms) → HoleAmong wrap → Hole (λ t. Call ty f (wrap t))
in_call ty f wrap h = record {
  lifts = λ r t n.
      ap (λ x. after x (λ vs. Calls f vs (Awaiting ty)) (Call ty f)) (h.lifts r t n)
      ∙ after_mapped (next r t) wrap (λ vs. Calls f vs (Awaiting ty)) (Call ty f) n;
  fills = λ v t. ap (Call ty f) (h.fills v t);
}

pub in_print : (ps : List Piece) (wrap : Term → Terms) → HoleAmong wrap → Hole (λ t. Print ps (wrap t))
in_print ps wrap h = record {
  lifts = λ r t n.
      ap (λ x. after x (λ vs. Prints ps vs (Awaiting Int)) (Print ps)) (h.lifts r t n)
      ∙ after_mapped (next r t) wrap (λ vs. Prints ps vs (Awaiting Int)) (Print ps) n;
  fills = λ v t. ap (Print ps) (h.fills v t);
}

pub in_left : (c : Connective) (u : Term) → Hole (λ t. Lazy c t u)
in_left c u = record { lifts = λ r t n. after_lifts (next r t) _ (λ x. Lazy c x u) n; fills = λ v t. refl }

pub in_right : Hole Deciding
in_right = record { lifts = λ r t n. after_lifts (next r t) _ Deciding n; fills = λ v t. refl }

pub in_store : (p : Place) → Hole (Store p)
in_store p = record { lifts = λ r t n. after_lifts (next r t) _ (Store p) n; fills = λ v t. refl }

-- ---- trees within what is to be done

module _ (routines : List Routine) where
  -- A step of a tree, within what is to be done.
  abbrev pub stepped : World → Process → Progress Value Term → (Term → Block) → Does
  stepped w p (Finished v) within = stands_still w p
  stepped w p (Stepped t) within = goes w p (within t)
  stepped w p (Writes q v t) within = written w p q v (within t)
  stepped w p (Calls f args t) within = calls frames_limit w p (within t) (slice_get routines f) args
  stepped w p (Prints ps vs t) within = prints w p (within t) (print w.outside (text_of ps vs))
  stepped w p (Raises text) within = Ends w (Broken text)
  stepped w p Blocked within = stands_still w p

  pub stepped_mapped : (w : World) (p : Process) (g : Progress Value Term) (f : Term → Term) (within : Term → Block) → NotDone g
      → stepped w p (mapped g f) within ≡ stepped w p g (λ t. within (f t))
  stepped_mapped w p (Finished v) f within n = absurd n
  stepped_mapped w p (Stepped t) f within n = refl
  stepped_mapped w p (Writes q v t) f within n = refl
  stepped_mapped w p (Calls h vs t) f within n = refl
  stepped_mapped w p (Prints ps vs t) f within n = refl
  stepped_mapped w p (Raises text) f within n = refl
  stepped_mapped w p Blocked f within n = refl

  -- What is to be done with a tree that is evaluated next.
  pub record Context (within : Term → Block) : Type 0 where
    pub acts : (w : World) (g : Frame) (n : ℕ) (below : List source.Frame) (t : Term)
        → NotDone (next (reads w (beside g (within t))) t)
        → sstep routines [] w (sourced n (beside g (within t)) below)
        ≡ stepped w (sourced n (beside g (within t)) below) (next (reads w (beside g (within t))) t) within
    pub fills : (v : Value) (t : Term) → fill_block v (within t) ≡ within (fill v t)

  pub within_hole : (within : Term → Block) (wrap : Term → Term) → Context within → Hole wrap → Context (λ t. within (wrap t))
  within_hole within wrap c h = record {
    acts = λ w g n below t d.
        let r = reads w (beside g (within (wrap t))) in
        let e = h.lifts r t d in
        c.acts w g n below (wrap t) (subst NotDone (sym e) (mapped_goes_on Value (next r t) wrap d))
        ∙ ap (λ x. stepped w (sourced n (beside g (within (wrap t))) below) x within) e
        ∙ stepped_mapped w (sourced n (beside g (within (wrap t))) below) (next r t) wrap within d;
    fills = λ v t. c.fills v (wrap t) ∙ ap within (h.fills v t);
  }

  -- A tree in a statement.
  evaluated_steps : (w : World) (p : Process) (rest : Block) (g : Progress Value Term) (f : Term → Stm) (use_it : Value → Does) → NotDone g
      → evaluate frames_limit routines w p rest g f use_it ≡ stepped w p g (λ t. Then (f t) rest)
  evaluated_steps w p rest (Finished v) f use_it n = absurd n
  evaluated_steps w p rest (Stepped t) f use_it n = refl
  evaluated_steps w p rest (Writes q v t) f use_it n = refl
  evaluated_steps w p rest (Calls h vs t) f use_it n = refl
  evaluated_steps w p rest (Prints ps vs t) f use_it n = refl
  evaluated_steps w p rest (Raises text) f use_it n = refl
  evaluated_steps w p rest Blocked f use_it n = refl

  pub in_eval : (rest : Block) → Context (λ t. Then (Eval t) rest)
  in_eval rest = record { acts = λ w g n below t d. evaluated_steps w _ rest _ Eval _ d; fills = λ v t. refl }

  pub in_set : (ps : List Place) (rest : Block) → Context (λ t. Then (Set ps t) rest)
  in_set ps rest = record { acts = λ w g n below t d. evaluated_steps w _ rest _ (Set ps) _ d; fills = λ v t. refl }

  pub in_if : (a b rest : Block) → Context (λ t. Then (If t a b) rest)
  in_if a b rest = record { acts = λ w g n below t d. evaluated_steps w _ rest _ (λ t. If t a b) _ d; fills = λ v t. refl }

  pub in_while : (l : Loop) (rest : Block) → Context (λ t. Then (While t l) rest)
  in_while l rest = record { acts = λ w g n below t d. evaluated_steps w _ rest _ (λ t. While t l) _ d; fills = λ v t. refl }

  pub in_return : (rest : Block) → Context (λ t. Then (Return t) rest)
  in_return rest = record { acts = λ w g n below t d. evaluated_steps w _ rest _ Return _ d; fills = λ v t. refl }
