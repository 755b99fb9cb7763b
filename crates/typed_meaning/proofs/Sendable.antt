-- Requests are no longer than a message may be.
use Rattle.std.proofs.Common.{◌≡◌, ℕ, zero, suc, ◌≤◌, ◌+◌, Bool, true, false, List, [], ◌∷◌, ◌++◌, length, take, Option, Some, None}
use Rattle.std.proofs.Common.{nat_lt, if◌then◌else◌, encode_utf8_all, refl, ap, subst, append-nil, arith}
use Rattle.std.specs.Prelude.{slice_get}
use Rattle.std.proofs.lemmas.List.{length-take}
use Rattle.styx_msg.specs.declared.message.Rmsg.{Rmsg}
use Rattle.styx_msg.specs.declared.message.Rmsg.TheVariants as r
use Rattle.process_model.specs.Process.{Asks}
use Rattle.system_model.specs.Values.{Value}
use Rattle.system_model.specs.World as outside
use Rattle.system_model.specs.World.{free_tag, end_wait, wrote}
use Rattle.system_model.specs.Prints.{Writing, Printing, Answers, Requests, NoReply, twrite, ask_piece, print, go_on, took, refused}
use Rattle.system_model.specs.Prints.{hear}
use Rattle.typed_meaning.specs.Trees.{Local, Global, Place, At, Term, Stm, Over, Eval, Set, If, While, Enter, Break}
use Rattle.typed_meaning.specs.Trees.{Continue, Return, Leave, Block, Done, Then, Turn, Again}
use Rattle.typed_meaning.specs.World.{World}
use Rattle.typed_meaning.specs.Formats.{text_of}
use Rattle.typed_meaning.specs.Program.{Routine}
use Rattle.typed_meaning.specs.Evaluation.{Progress, Finished, Stepped, Writes, Calls, Prints, Raises, Blocked, next}
use Rattle.typed_meaning.specs.Process.{Frame, Process, Does, reads, written, returns, calls, prints, hears, height}
use Rattle.typed_meaning.specs.Step.{evaluate, sets, act, work, heard}
use Rattle.typed_meaning.specs.Requests.{IsSendable, RequestsAreSendable}

-- what is so of each effect
abbrev Sends : Does → Type 0
Sends (Asks v m q) = IsSendable m
Sends _ = Unit {0}

abbrev Asked : Printing → Type 0
Asked (Requests v m k) = IsSendable m
Asked _ = Unit {0}

-- a Twrite has 23 bytes beside its piece
twrite_size : (w : outside.World) (tag : ℕ) (piece : List ℕ) → length (twrite w tag piece).frame ≡ 23 + length piece
twrite_size w tag piece = let bare : length (piece ++ []) ≡ length piece = ap length (append-nil piece) in omega (arith, bare)

piece_size : (bytes : List ℕ) → length (take 8192 bytes) ≤ 8192
piece_size bytes = let same = length-take 8192 bytes in omega (arith, same)

ask_writes : (w : outside.World) (written : ℕ) (bytes : List ℕ) → Asked (ask_piece w written bytes)
ask_writes w written bytes = record {
  console = refl;
  short =
      let size = twrite_size w (free_tag w.links.console) (take 8192 bytes) in
      let few = piece_size bytes in
      omega (arith, size, few);
}

print_writes : (w : outside.World) (text : List ℕ) → Asked (print w text)
print_writes w [] = tt
print_writes w (c ∷ cs) = ask_writes w 0 (encode_utf8_all (c ∷ cs))

go_on_writes : (w : outside.World) (total : ℕ) (left : List ℕ) → Asked (go_on w total left)
go_on_writes w total [] = tt
go_on_writes w total (b ∷ bs) = ask_writes w total (b ∷ bs)

either_writes : (b : Bool) (x y : Printing) → Asked x → Asked y → Asked (if b then x else y)
either_writes true x y h k = h
either_writes false x y h k = k

refused_writes : (w : outside.World) (written : ℕ) → Asked (refused w written)
refused_writes w zero = tt
refused_writes w (suc n) = tt

took_writes : (w : outside.World) (k : Writing) (count : ℕ) → Asked (took w k count)
took_writes w k count = either_writes (nat_lt count k.asked) _ _ tt (go_on_writes w (k.written + count) k.left)

hear_writes : (a : Rmsg) (w : outside.World) (k : Writing) → Asked (hear a w k)
hear_writes (r.Write count) w k = either_writes (nat_lt k.asked count) _ _ tt (took_writes (wrote count (end_wait k.tag w)) k count)
hear_writes (r.Error ename) w k = refused_writes (end_wait k.tag w) k.written
hear_writes _ w k = tt

module _ (limit : ℕ) (routines : List Routine) (w : World) (p : Process) where
  returns_sends : (v : Value) (fs : List Frame) → Sends (returns w p fs v)
  returns_sends v [] = tt
  returns_sends v (f ∷ fs) = tt

  enters_sends : (b : Bool) (x y : Does) → Sends x → Sends y → Sends (if b then x else y)
  enters_sends true x y h k = h
  enters_sends false x y h k = k

  calls_sends : (waits : Block) (o : Option Routine) (args : List Value) → Sends (calls limit w p waits o args)
  calls_sends waits None args = tt
  calls_sends waits (Some f) args = enters_sends (nat_lt (height p) limit) _ _ tt tt

  prints_sends : (waits : Block) (g : Printing) → Asked g → Sends (prints w p waits g)
  prints_sends waits (Answers o v) h = tt
  prints_sends waits (Requests o m k) h = h
  prints_sends waits NoReply h = tt

  written_sends : (q : Place) (v : Value) (todo : Block) → Sends (written w p q v todo)
  written_sends (At t (Local x)) v todo = tt
  written_sends (At t (Global x)) v todo = tt

  evaluate_sends : (rest : Block) (g : Progress Value Term) (within : Term → Stm) (use_it : Value → Does) → ((v : Value) → Sends (use_it v))
      → Sends (evaluate limit routines w p rest g within use_it)
  evaluate_sends rest (Finished v) within use_it h = h v
  evaluate_sends rest (Stepped t) within use_it h = tt
  evaluate_sends rest (Writes q v t) within use_it h = written_sends q v (Then (within t) rest)
  evaluate_sends rest (Calls f args t) within use_it h = calls_sends (Then (within t) rest) (slice_get routines f) args
  evaluate_sends rest (Prints ps vs t) within use_it h =
      prints_sends (Then (within t) rest) (print w.outside (text_of ps vs)) (print_writes w.outside (text_of ps vs))
  evaluate_sends rest (Raises text) within use_it h = tt
  evaluate_sends rest Blocked within use_it h = tt

  sets_sends : (rest : Block) (qs : List Place) (v : Value) → Sends (sets limit routines w p rest qs v)
  sets_sends rest [] v = tt
  sets_sends rest (q ∷ qs) v = written_sends q _ _

  act_sends : (s : Stm) (rest : Block) → Sends (act limit routines w p s rest)
  act_sends Over rest = tt
  act_sends (Eval t) rest = evaluate_sends rest (next (reads w p.frame) t) _ _ (λ v. tt)
  act_sends (Set qs t) rest = evaluate_sends rest (next (reads w p.frame) t) _ _ (λ v. sets_sends rest qs v)
  act_sends (If t a b) rest = evaluate_sends rest (next (reads w p.frame) t) _ _ (λ v. tt)
  act_sends (While t l) rest = evaluate_sends rest (next (reads w p.frame) t) _ _ (λ v. tt)
  act_sends (Enter l) rest = tt
  act_sends (Break n) rest = tt
  act_sends (Continue n) rest = tt
  act_sends (Return t) rest = evaluate_sends rest (next (reads w p.frame) t) _ _ (λ v. returns_sends v p.below)
  act_sends Leave rest = returns_sends _ p.below

  work_sends : (todo : Block) → Sends (work limit routines w p todo)
  work_sends Done = returns_sends _ p.below
  work_sends (Then s rest) = act_sends s rest
  work_sends (Turn l rest) = tt
  work_sends (Again l rest) = tt

hears_sends : (w : World) (p : Process) (g : Printing) → Asked g → Sends (hears w p g)
hears_sends w p (Answers o v) h = tt
hears_sends w p (Requests o m k) h = h
hears_sends w p NoReply h = tt

heard_sends : (a : Rmsg) (w : World) (p : Process) (k : Option Writing) → Sends (heard a w p k)
heard_sends a w p None = tt
heard_sends a w p (Some k) = hears_sends w p (hear a w.outside k) (hear_writes a w.outside k)

pub requests_are_sendable : RequestsAreSendable
requests_are_sendable = record {
  first = λ limit routines w v p q m e. subst Sends e (work_sends limit routines w p p.frame.todo);
  later = λ a w v p q m e. subst Sends e (heard_sends a w p p.printing);
}
