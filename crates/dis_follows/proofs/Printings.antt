-- Within a print: what is there, and how it goes on with other words in the frame that is made.
use Rattle.std.proofs.Common.{◌≡◌, ℕ, zero, suc, ◌+◌, ◌-◌, ◌+ℤ◌, ◌<◌, ◌≤◌, ◌*◌, pos, Bool, true, false, inl, inr, List, [], ◌∷◌, ◌++◌}
use Rattle.std.proofs.Common.{length, Some, refl, sym, ap, ◌∙◌, subst, arith, max}
use Rattle.std.specs.Prelude.{◌⊎◌, slice_get, replicate}
use Rattle.process_model.specs.Process.{Went}
use Rattle.dis_isa.specs.declared.inst.Inst as code_inst
use Rattle.dis_isa.specs.declared.inst.Operand.TheVariants as operand
use Rattle.limbo_values.specs.declared.number.Kind.TheVariants.{Int}
use Rattle.std.proofs.lemmas.Int.{ints}
use Rattle.system_model.specs.Limits.{frames_limit}
use Rattle.typed_meaning.specs.World as program
use Rattle.slot_code.specs.Code.{Inst, Move, Hand, Alter, Operate, Branch, Jump, Skip, Back, Begin, Call, Format, Print, Return, Leave}
use Rattle.slot_code.specs.Code.{Function, Module}
use Rattle.slot_code.specs.Machine as machine
use Rattle.dis_meaning.specs.Words.{Word, InFrame, Found, ◌>>=◌}
use Rattle.dis_meaning.specs.World.{World}
use Rattle.dis_meaning.specs.Process.{Frame, Process, with_words}
use Rattle.dis_meaning.specs.Places.{Far, spot, behind}
use Rattle.dis_meaning.specs.Step as dis_step
use Rattle.dis_objects.specs.Frames.{Callee, Calls, Prints, Room, room_of, made_at, made_from, made_by, without_first, argument_bytes}
use Rattle.dis_objects.specs.Frames.{printed_kinds}
use Rattle.dis_objects.specs.Code.{Context, Text, spot_kind, place, printing, bytes_data, format_text, size}
use Rattle.dis_objects.specs.Code as objects
use Rattle.dis_objects.specs.Objects.{context, object_of, print_bytes, most_printed, most_of_all}
use Rattle.dis_objects.specs.Proper.{IsProper, ProperInst, IsRead, GoesOn, AllTellNumbers}
use Rattle.dis_follows.specs.Numbers.{IsPlain}
use Rattle.dis_follows.specs.Stands.{Known, ArePlain, HasDatum, HasData, Running, Ready, Printing, WorldStands}
use Rattle.dis_follows.specs.Paces as paces
use Rattle.dis_follows.proofs.Places.{which}
use Rattle.dis_follows.proofs.Moved.{AllPlain, Put}
use Rattle.dis_follows.proofs.Lookups.{HasAt, Coded}
use Rattle.dis_follows.proofs.Runs.{is_coded, is_proper, as_known}
use Rattle.dis_follows.proofs.Advances.{stack_same, rests}
use Rattle.dis_follows.proofs.Paces.{place_is}
use Rattle.dis_follows.proofs.Passed.{none_below}
use Rattle.dis_follows.proofs.Framings.{most_least}
use Rattle.dis_follows.proofs.Addresses.{with_made}
use Rattle.dis_follows.proofs.Far as far
use Rattle.dis_follows.proofs.Decided.{Goal}

-- Which word of a print's frame refers.
abbrev pub format_marks : List Bool
format_marks = replicate 8 false ++ true ∷ []

-- ---- the frame of a print has room for the arguments of each

abbrev AllFit : ℕ → List Callee → Type 0
AllFit b [] = Unit {0}
AllFit b (Calls f ∷ cs) = AllFit b cs
AllFit b (Prints ps ∷ cs) = (print_bytes (Format ps) ≤ b) × AllFit b cs

without_fit : (b : ℕ) (cs : List Callee) → AllFit b cs → AllFit b (without_first cs)
without_fit b [] h = tt
without_fit b (Calls f ∷ cs) h = h
without_fit b (Prints ps ∷ cs) h = h.1

by_fit : (b : ℕ) (cs : List Callee) (i : Inst) → AllFit b cs → print_bytes i ≤ b → AllFit b (made_by cs i)
by_fit b cs (Move into x) h l = h
by_fit b cs (Hand into x) h l = h
by_fit b cs (Alter o into x) h l = h
by_fit b cs (Operate o into x y) h l = h
by_fit b cs (Branch k c x y n) h l = h
by_fit b cs (Jump n) h l = h
by_fit b cs (Skip n) h l = h
by_fit b cs (Back n) h l = h
by_fit b cs (Begin f) h l = h
by_fit b cs (Call k f n into) h l = without_fit b cs h
by_fit b cs (Format ps) h l = (l, h)
by_fit b cs (Print n into) h l = without_fit b cs h
by_fit b cs (Return x) h l = h
by_fit b cs Leave h l = h

from_fit : (b : ℕ) (cs : List Callee) (is : List Inst) (pc : ℕ) → AllFit b cs → most_printed is ≤ b → AllFit b (made_from cs is pc)
from_fit b cs is zero h l = h
from_fit b cs [] (suc pc) h l = h
from_fit b cs (i ∷ is) (suc pc) h l = from_fit b (made_by cs i) is pc (by_fit b cs i h (omega (arith, l))) (omega (arith, l))

most_in : (fs : List Function) (n : ℕ) (f : Function) → slice_get fs n ≡ Some f → most_printed f.code ≤ most_of_all fs
most_in [] n f e = absurd cc
most_in (g ∷ fs) zero f e =
    let same : g ≡ f = cc in
    subst (λ (g : Function). most_printed f.code ≤ max (most_printed g.code) (most_of_all fs)) (sym same) (omega arith)
most_in (g ∷ fs) (suc n) f e = let l = most_in fs n f e in omega (arith, l)

-- ---- plain words in place of plain words

pub put_plain : (marks : List Bool) (words vs : List Word) (b : ℕ) → AllPlain vs (length vs) → (p : Put words b vs) → ArePlain marks words
    → ArePlain marks p.after
put_plain marks words vs b plain p h j w e free = go (which j b) (which j (b + length vs))
  where
    old : (j < b) ⊎ (b + length vs ≤ j) → IsPlain w
    old out = h j w (sym (p.others j out) ∙ e) free

    new : b ≤ j → j < b + length vs → IsPlain w
    new l l' =
        let v = plain (j - b) (omega (arith, l, l')) in
        let q : j ≡ b + (j - b) = omega (arith, l) in
        let same : Some w ≡ Some v.0 = sym e ∙ ap (slice_get p.after) q ∙ p.each (j - b) (omega (arith, l, l')) ∙ v.1 in
        let same' : w ≡ v.0 = cc in subst IsPlain (sym same') v.2

    go : (j ≡ b) ⊎ ((j < b) ⊎ (b < j)) → (j ≡ b + length vs) ⊎ ((j < b + length vs) ⊎ (b + length vs < j)) → IsPlain w
    go (inr (inl l)) q = old (inl l)
    go q (inl e) = old (inr (omega (arith, e)))
    go q (inr (inr l)) = old (inr (omega (arith, l)))
    go (inl e) (inr (inl l)) = new (omega (arith, e)) l
    go (inr (inr l')) (inr (inl l)) = new (omega (arith, l')) l

module _ (m : Module) (proper : IsProper m) (k : Known) (number : ℕ) (w : program.World) (x : World) (ws : WorldStands m k w x)
    (p : machine.Process) (r : Process) (o : ℕ) (n : Frame) (h : Printing m k p r (suc o) n) where
  abbrev pub H : Running m k p r (suc o) (n ∷ [])
  H = h.making.running

  abbrev pub F : Function
  F = H.frame.function

  abbrev pub C : Context
  C = context m p.frame.function F

  abbrev pub CS : List Callee
  CS = made_at F.code p.frame.pc

  abbrev pub R : Room
  R = room_of m.functions F

  abbrev pub P : ℕ
  P = place C p.frame.pc

  -- ---- what is there

  -- The code of the print, and its data.
  pub record PrintCode : Type 0 where
    pub at : ℕ
    pub code : HasAt (object_of m).insts P (printing C at h.into (Prints h.pieces ∷ h.cs))
    pub text : HasDatum m ws.words at (Text (format_text h.pieces))
    pub constants : HasData m ws.words (at + 4) (bytes_data (argument_bytes m.functions (Prints h.pieces)))

  pub its_code : PrintCode
  its_code =
      let c = subst (Coded m ws.words C (object_of m).insts P p.frame.pc CS) h.is (is_coded m proper k w x ws p r (suc o) (n ∷ []) H) in
      let d : HasData m ws.words c.at (objects.passing_data m.functions (Prints h.pieces ∷ h.cs)) =
      subst (λ cs. HasData m ws.words c.at (objects.passing_data m.functions cs)) h.callee c.constants in
      record {
        at = c.at;
        code = subst (λ cs. HasAt (object_of m).insts P (printing C c.at h.into cs)) h.callee c.code;
        text = d.0;
        constants = d.1;
      }

  -- It is proper.
  pub record Proper : Type 0 where
    pub holes : AllTellNumbers h.pieces
    pub takes : length (printed_kinds h.pieces) ≡ h.arguments
    pub written : IsRead m F h.into
    pub kind : spot_kind h.into ≡ Int
    pub on : GoesOn m F h.cs (suc p.frame.pc)

  pub its_proper : Proper
  its_proper =
      let i = subst (ProperInst m F CS p.frame.pc) h.is (is_proper m proper k w x ws p r (suc o) (n ∷ []) H) in
      let q = i.0 in
      let both : Prints q.pieces ∷ q.others ≡ Prints h.pieces ∷ h.cs = sym q.last ∙ h.callee in
      let pieces : q.pieces ≡ h.pieces = cc in
      let others : q.others ≡ h.cs = cc in
      record {
        holes = subst AllTellNumbers pieces q.holes;
        takes = ap (λ ps. length (printed_kinds ps)) (sym pieces) ∙ q.takes;
        written = q.written;
        kind = q.kind;
        on = subst (λ cs. GoesOn m F cs (suc p.frame.pc)) others i.1;
      }

  -- Its frame has room.
  pub has_room : 36 + argument_bytes m.functions (Prints h.pieces) ≤ 4 * length n.words
  has_room =
      let most = most_in m.functions p.frame.function F H.frame.found in
      let fit = from_fit (most_of_all m.functions) [] F.code p.frame.pc tt most in
      let fit' : AllFit (most_of_all m.functions) (Prints h.pieces ∷ h.cs) = subst (AllFit (most_of_all m.functions)) h.callee fit in
      let fit'' : print_bytes (Format h.pieces) ≤ most_of_all m.functions = fit'.0 in
      let least = most_least m.functions in
      let long = h.long in
      omega (arith, fit'', least, long)

  -- ---- the frame that is made

  pub own : r.frame.serial ≡ n.serial → ⊥
  own e = let l = h.making.made.later in omega (arith, e, l)

  pub below : far.NoneHas n.serial r.below
  below = none_below m F r.frame p.below r.below n.serial H.stack h.making.made.later

  pub spot_in : (at : ℕ) → spot x r (operand.IndFp (pos R.made) (pos at)) ≡ Found (Far (InFrame n.serial) (pos at))
  spot_in at = ap (λ a. a >>= λ w. behind w (pos at)) h.making.address ∙ ap (λ z. Found (Far (InFrame n.serial) z)) (zero_plus at)
    where
      zero_plus : (at : ℕ) → pos 0 +ℤ pos at ≡ pos at
      zero_plus at = omega (arith, ints)

  -- ---- it goes on

  abbrev pub then_made : List Word → Process
  then_made words = with_made m k w x ws p r (suc o) n h.making words (suc (suc o) + P)

  abbrev pub printing_on : (words : List Word) → 4 * length words ≡ most_of_all m.functions → ArePlain format_marks words
      → Printing m k p (then_made words) (suc (suc o)) (with_words n words)
  printing_on words long plain = record {
    making = record {
      running = record {
        loaded = H.loaded;
        number = H.number;
        frame = record {
          function = F;
          found = H.frame.found;
          inst = H.frame.inst;
          there = H.frame.there;
          here = refl;
          instance = H.frame.instance;
          first = H.frame.first;
          has = H.frame.has;
        };
        stack = stack_same m F r.frame _ p.below r.below refl refl H.stack;
        frames = refl;
        fresh = H.fresh;
      };
      made = record { later = h.making.made.later; given = h.making.made.given; instance = h.making.made.instance };
      address = h.making.address;
    };
    arguments = h.arguments;
    into = h.into;
    is = h.is;
    pieces = h.pieces;
    cs = h.cs;
    callee = h.callee;
    ready = h.ready;
    others = h.others;
    first = h.first;
    long = long;
    plain = plain;
  }

  -- The instruction that it stands at, and the next.
  pub goes_further : (i j : code_inst.Inst) (words : List Word) → suc (suc o) < 5
      → slice_get (object_of m).insts (suc o + P) ≡ Some i → slice_get (object_of m).insts (suc (suc o) + P) ≡ Some j
      → paces.op_rank i.op r.below (suc o) ≡ 3 + suc o → paces.op_rank j.op r.below (suc (suc o)) ≡ 3 + suc (suc o)
      → dis_step.step frames_limit (object_of m ∷ []) x r ≡ Went x (then_made words) → Ready m k p (then_made words)
      → Goal m proper k number w x ws p r (dis_step.step frames_limit (object_of m ∷ []) x r)
  goes_further i j words few at_i at_j rank_i rank_j steps ready =
      let r' = then_made words in
      let long : size H.frame.inst ≡ 5 = ap size h.is in
      let first = place_is m r p.frame.function F p.frame.pc H.frame.inst (suc o) H.frame.found H.frame.there
      (omega (arith, long, few)) H.frame.here
      ∙ ap (λ i. paces.rank i r.below (suc o)) (ap (slice_get (object_of m).insts) H.frame.here ∙ at_i) ∙ rank_i in
      let second = place_is m r' p.frame.function F p.frame.pc H.frame.inst (suc (suc o)) H.frame.found H.frame.there
      (omega (arith, long, few)) refl
      ∙ ap (λ i. paces.rank i r.below (suc (suc o))) at_j ∙ rank_j in
      subst (Goal m proper k number w x ws p r) (sym steps)
      (rests m (paces.place m) k number x w p (paces.place m r) k x r' (as_known k) ready ws (omega (arith, first, second)))
