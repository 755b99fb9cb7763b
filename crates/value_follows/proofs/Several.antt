-- Rows of several instructions, of which all but the last change nothing that refers: as long as they last, the machine's process is that
-- of two that are ready, at another place and with other numbers.
use Rattle.std.proofs.Common.{◌≡◌, ℕ, zero, suc, ◌+◌, ◌<◌, List, [], ◌∷◌, Option, Some, refl, sym, ap, ◌∙◌, subst, arith}
use Rattle.std.specs.Prelude.{slice_get, slice_set}
use Rattle.process_model.specs.Process.{Went}
use Rattle.process_model.proofs.Totals.{fun_ext}
use Rattle.process_ways.specs.Ways.{Does, Way}
use Rattle.process_ways.proofs.On.{silent}
use Rattle.heap_model.specs.Alike.{Holds}
use Rattle.heap_model.specs.Worlds.{blocks}
use Rattle.limbo_typed.specs.Typed as typed
use Rattle.limbo_meaning.specs.Process.{Shared}
use Rattle.core_code.specs.Code.{Instr}
use Rattle.core_code.specs.Machine as code
use Rattle.dis_isa.specs.declared.inst.Inst.{Inst}
use Rattle.dis_meaning.specs.Counts.{refers, in_words}
use Rattle.dis_meaning.specs.Words.{Word, Plain, Refer, Address}
use Rattle.dis_meaning.specs.Process.{Process, at_pc, with_words, with_frames}
use Rattle.dis_memory.specs.Blocks.{World}
use Rattle.dis_memory.specs.Naming as machine
use Rattle.value_words.specs.Facts.{Facts}
use Rattle.value_code.specs.Objects.{object_of, of_function, size_at}
use Rattle.value_code.specs.Code.{code_of}
use Rattle.number_effects.specs.Stepping.{Reaches}
use Rattle.value_follows.specs.Stands.{Ready}
use Rattle.value_follows.specs.Sides.{sides, contents, HoldTheSame}
use Rattle.value_follows.specs.Rows.{place, rank, row_of, Base, RowStands, site_of}
use Rattle.value_follows.proofs.Standing.{same_some, instance_here, code_here}
use Rattle.value_follows.proofs.Paces.{places_are}
use Rattle.value_follows.proofs.Single.{nothing_changes}

-- ---- words that don't refer name nothing

names_none : (n : ℕ) (w : Word) → ((r : Option ℕ) → w ≡ Refer r → ⊥) → refers n w ≡ 0
names_none n (Plain z) none = refl
names_none n (Refer r) none = absurd (none r refl)
names_none n (Address place to) none = refl

pub names_as : (n : ℕ) (words : List Word) (w : ℕ) (old new : Word) → slice_get words w ≡ Some old → ((r : Option ℕ) → old ≡ Refer r → ⊥)
    → ((r : Option ℕ) → new ≡ Refer r → ⊥) → in_words n (slice_set words w new) ≡ in_words n words
names_as n [] w old new e o f = absurd cc
names_as n (v ∷ words) zero old new e o f =
    let same : v ≡ old = same_some v old e in
    let a = names_none n new f in
    let b : refers n v ≡ 0 = ap (refers n) same ∙ names_none n old o in
    ap (λ (c : ℕ). c + in_words n words) (a ∙ sym b)
names_as n (v ∷ words) (suc w) old new e o f = ap (λ (c : ℕ). refers n v + c) (names_as n words w old new e o f)

-- the process at another place, with other words
abbrev pub moved_to : Process → ℕ → List Word → Process
moved_to q pc words = with_frames q (at_pc (with_words q.frame words) pc) q.below q.made

pub moved_names : (q : Process) (pc : ℕ) (words : List Word) → ((n : ℕ) → in_words n words ≡ in_words n q.frame.words) → (n : ℕ)
    → machine.names (moved_to q pc words) n ≡ machine.names q n
moved_names q pc words same n = let e = same n in omega (arith, e)

module _ (m : typed.Module) (b : Base m) (i : ℕ) (p : code.Process) where
  pub hold_as : (k : Facts) (x : World) (q r : Process) → ((n : ℕ) → machine.names q n ≡ machine.names r n) → HoldTheSame m k i x p q
      → HoldTheSame m k i x p r
  hold_as k x q r same h =
      subst (λ (f : ℕ → ℕ). Holds k (λ j. j ≡ i) (blocks (contents m) x.heap) (code.process_names p) f) (fun_ext same) h

  -- what the next instruction does, so far in front of the end
  abbrev pub Next : ℕ → Facts → Shared → World → Process → Type 0
  Next n k w x q = Does (sides m) (place m) (λ l z r t. Way (sides m) (place m) n l i z r t) (place m q) k i w x p ((sides m).code.step x q)

  -- a way from here, where the two were ready at the begin of the row
  pub several : (first q : Process) → ((n : ℕ) → machine.names q n ≡ machine.names first n) → (n number : ℕ) (k : Facts) (x : World)
      → (r : Ready m k i x p first) → r.stands.is.number ≡ number → HoldTheSame m k i x p q
      → ((now : Facts) (w : Shared) (y : World) (s : Ready m now i y p first) → s.stands.is.number ≡ number → HoldTheSame m now i y p first
      → HoldTheSame m now i y p q → (sides m).worlds now w y → Next n now w y q)
      → Way (sides m) (place m) (suc n) k i x p q
  several first q same n number k x r e hold does = (
    hold,
    λ now y w l h worlds.
        let h' = hold_as now y q first same h in
        let s = b.ready_later k now i x y p first r l h' in
        does now w y s.0 (s.1 ∙ e) h' h worlds,
  )

  -- the other stands still
  pub goes_silently : (n : ℕ) (k : Facts) (w : Shared) (x : World) (q r : Process) → (sides m).code.step x q ≡ Went x r → (sides m).worlds k w x
      → place m q < place m r → Way (sides m) (place m) n k i x p r → Next n k w x q
  goes_silently n k w x q r e worlds more way =
      silent (sides m) (place m) (λ l z r t. Way (sides m) (place m) n l i z r t) k k i w x x p q r e (nothing_changes m k i x) worlds more way

-- ---- an instruction of a row, once two were ready at its begin

module _ (m : typed.Module) (b : Base m) (k : Facts) (i : ℕ) (w : Shared) (x : World) (p : code.Process) (q : Process) (ready : Ready m k i x p q) (hold : HoldTheSame m k i x p q) (worlds : (sides m).worlds k w x) (instr : Instr) (here : slice_get p.frame.code p.frame.pc ≡ Some instr) where
  abbrev number : ℕ
  number = ready.stands.is.number

  abbrev function : typed.Function
  function = ready.stands.is.function

  pub row_now : RowStands m number function p.frame.pc instr
  row_now = b.row_stands number function p.frame.pc instr ready.stands.is.there (code_here m k i x p q ready instr here)

  pub reaches_at : (j : ℕ) (words : List Word) (inst : Inst) → slice_get (code_of (site_of m number function p.frame.pc row_now.at) instr) j ≡ Some inst
      → Reaches (object_of m ∷ []) x (moved_to q (q.frame.pc + j) words) (object_of m) inst
  reaches_at j words inst e =
      let is = instance_here m b k i w x p q [] ready.stands.is hold worlds.0 in
      record {
        object = 0;
        words = is.0;
        instance = is.1;
        code = refl;
        here = ap (λ (n : ℕ). slice_get (object_of m).insts (n + j)) ready.pc ∙ row_now.insts j inst e;
      }

  -- how far the process is there
  pub rank_at : (j : ℕ) (words : List Word) → j < size_at m function.of.answer (of_function m function) p.frame.pc (Some instr)
      → place m (moved_to q (q.frame.pc + j) words) ≡ rank (row_of m function p.frame.pc instr) j
  rank_at j words l =
      (places_are m).ranked number function p.frame.pc instr j (moved_to q (q.frame.pc + j) words) ready.stands.is.there
      (code_here m k i x p q ready instr here) l (ap (λ (n : ℕ). n + j) ready.pc)
