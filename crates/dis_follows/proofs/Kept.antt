-- What holds of the object of every proper module.
use Rattle.std.proofs.Common.{◌≡◌, ℕ, ℤ, Bool, true, false, List, [], ◌∷◌, Option, Some, None, Result, Ok, Err, refl, sym, ap, ◌∙◌, subst}
use Rattle.std.proofs.Common.{arith, append-nil, codes, nat_lt, if◌then◌else◌}
use Rattle.std.specs.Prelude.{slice_get}
use Rattle.process_model.specs.Process.{Went, Ends}
use Rattle.process_model.specs.Follows.{Follows, Matches}
use Rattle.limbo_values.specs.declared.number.Kind.{Kind}
use Rattle.limbo_values.specs.declared.raised.Raised.{Raised}
use Rattle.limbo_values.specs.Numbers.{InRange, wrapped}
use Rattle.limbo_values.proofs.Ranges.{always}
use Rattle.system_model.specs.Values.{Value, Num, zero_value}
use Rattle.system_model.specs.Prints.{Printing, Answers, Requests, NoReply, print}
use Rattle.system_model.specs.Ending.{Broken, Faulted}
use Rattle.system_model.specs.Limits.{frames_limit}
use Rattle.typed_meaning.specs.Values.{number_of, result_of}
use Rattle.typed_meaning.specs.Formats.{text_of}
use Rattle.typed_meaning.specs.World as source
use Rattle.typed_meaning.specs.World.{global_of}
use Rattle.slot_code.specs.Code.{Spot, Inst, Move, Hand, Alter, Operate, Branch, Jump, Skip, Back, Begin, Call, Format, Print, Return}
use Rattle.slot_code.specs.Code.{Leave, Function, Module}
use Rattle.slot_code.specs.Machine as machine
use Rattle.slot_code.specs.Machine.{Made, taken, value_of, waiting}
use Rattle.slot_code.specs.Step as slot_step
use Rattle.slot_code.specs.Rules as slot_rules
use Rattle.dis_meaning.specs.World as memory
use Rattle.dis_meaning.specs.World.{Instance}
use Rattle.dis_objects.specs.Objects.{init_of, object_of, frame_desc, print_desc, entry_type_of, functions_data}
use Rattle.dis_objects.specs.Proper.{IsProper}
use Rattle.dis_follows.specs.Start.{opening, opening_words, first_process, entry_words, data_texts}
use Rattle.dis_follows.specs.Stands.{HasNumbers, Ready, enters, WorldStands, sides}
use Rattle.dis_follows.specs.Paces.{place}
use Rattle.dis_follows.specs.Laws.{at_first, IsOpening, Keeps, NeverFaults}
use Rattle.dis_follows.proofs.Framings.{get_mapped}
use Rattle.dis_follows.proofs.Blanks.{blank_frame}
use Rattle.dis_follows.proofs.Opening.{opening_data, opening_variable, opening_zeros}
use Rattle.dis_follows.proofs.Each.{goes}
use Rattle.dis_follows.proofs.Whole.{object_follows}

-- ---- the opening

module _ (m : Module) where
  words_are : (init : ℕ) (f : Function) → init_of m ≡ Some init → slice_get m.functions init ≡ Some f
      → (first_process m).frame.words ≡ entry_words (Some (frame_desc m.functions f))
  words_are init f e there =
      ap (λ o. entry_words (slice_get (object_of m).types (entry_type_of m.functions o))) e
      ∙ ap entry_words (get_mapped (frame_desc m.functions) m.functions (print_desc m.functions ∷ []) init f there)

  begins : (init : ℕ) (f : Function) → init_of m ≡ Some init → slice_get m.functions init ≡ Some f
      → Ready m at_first (slot_rules.first_process init f) (first_process m)
  begins init f e there =
      enters (record {
        init = init;
        is_init = e;
        function = f;
        found = there;
        number = refl;
        frame = refl;
        alone = refl;
        alone_too = refl;
        here = refl;
        instance = refl;
        has = subst (HasNumbers m f [] (machine.entered init 0 f [])) (sym (words_are init f e there)) (blank_frame m f init);
        frames = refl;
        fresh = omega arith;
      })

  in_range : (k : Kind) (v : Value) (z : ℤ) → number_of k v ≡ Num z → InRange k z
  in_range k (Num y) z e = let same : wrapped k y ≡ z = cc in subst (InRange k) same (always k y)

  begins_in : (w : source.World) → IsOpening m w → WorldStands m at_first w (opening m)
  begins_in w h = record {
    outside = sym h.outside;
    frames = refl;
    some = h.some;
    words = opening_words m;
    texts = memory.Text (codes "$Sys") ∷ data_texts (functions_data m.functions m.functions);
    more = [];
    blocks = ap (λ l. Instance 0 (opening_words m) ∷ l)
        (sym (append-nil (memory.Text (codes "$Sys") ∷ data_texts (functions_data m.functions m.functions))));
    opened = refl;
    has = record {
      path = refl;
      sys = None;
      module_word = refl;
      loaded = λ e. absurd cc;
      many = h.many;
      variables = λ x k g e kind.
          let is = h.values x k g e kind in
          let range = in_range k (global_of w 0 x) g.initial is in
          record { number = g.initial; is = is; range = range; there = opening_variable m x g k e kind range };
      constants = opening_data m;
      zeros = opening_zeros m;
    };
  }

record FollowsBy (m : Module) : Type 0 where
  follows : Follows (sides m)
  pace : follows.bound ≡ 8

follows_by : (m : Module) → IsProper m → FollowsBy m
unfolding object_follows
follows_by m proper = record { follows = object_follows m proper; pace = refl }

pub keeps : (m : Module) → IsProper m → Keeps m
keeps m proper =
    let h = follows_by m proper in
    record { follows = h.follows; pace = h.pace; begins = begins m; begins_in = begins_in m }

-- ---- faults

-- An effect that isn't a fault.
abbrev NoFault : machine.Does → Type 0
NoFault (Ends y (Faulted number pc)) = ⊥
NoFault _ = Unit {0}

returns_clean : (w : source.World) (p : machine.Process) (fs : List machine.Frame) (v : Value) → NoFault (machine.returns w p fs v)
returns_clean w p [] v = tt
returns_clean w p (f ∷ fs) v = tt

by_room : (w : source.World) (p q : machine.Process) (b : Bool) → NoFault (if b then Went w q else Ends w (Broken (codes "stack overflow")))
by_room w p q true = tt
by_room w p q false = tt

calls_clean : (w : source.World) (p : machine.Process) (waits : machine.Frame) (f : ℕ) (o : Option Function) (args : List Value)
    → NoFault (machine.calls frames_limit w p waits f o args)
calls_clean w p waits f None args = tt
calls_clean w p waits f (Some g) args = by_room w p _ (nat_lt (machine.height p) frames_limit)

prints_clean : (w : source.World) (p : machine.Process) (waits : machine.Frame) (g : Printing) → NoFault (machine.prints w p waits g)
prints_clean w p waits (Answers v a) = tt
prints_clean w p waits (Requests v m k) = tt
prints_clean w p waits NoReply = tt

gives_clean : (w : source.World) (p : machine.Process) (into : Spot) (r : Result Value Raised) → NoFault (slot_step.gives w p into r)
gives_clean w p into (Ok v) = tt
gives_clean w p into (Err e) = tt

module _ (functions : List Function) (w : source.World) (p : machine.Process) where
  called_clean : (k : Kind) (f n : ℕ) (into : Spot) (ms : List Made) → NoFault (slot_step.called frames_limit functions w p k f n into ms)
  called_clean k f n into [] = tt
  called_clean k f n into (m ∷ ms) = calls_clean w p (waiting p.frame ms k into) f (slice_get functions f) (taken m.arguments 0 n)

  printed_clean : (n : ℕ) (into : Spot) (ms : List Made) → NoFault (slot_step.printed frames_limit functions w p n into ms)
  printed_clean n into [] = tt
  printed_clean n into (m ∷ ms) = prints_clean w p _ (print w.outside (text_of m.format (taken m.arguments 0 n)))

  obey_clean : (i : Inst) → NoFault (slot_step.obey frames_limit functions w p i)
  obey_clean (Move into from) = tt
  obey_clean (Hand into from) = tt
  obey_clean (Alter o into from) = gives_clean w p into (result_of o (value_of w p.frame from ∷ []))
  obey_clean (Operate o into left right) = gives_clean w p into (result_of o (value_of w p.frame left ∷ value_of w p.frame right ∷ []))
  obey_clean (Branch k c left right n) = tt
  obey_clean (Jump n) = tt
  obey_clean (Skip n) = tt
  obey_clean (Back n) = tt
  obey_clean (Begin f) = tt
  obey_clean (Call k f n into) = called_clean k f n into p.frame.made
  obey_clean (Format ps) = tt
  obey_clean (Print n into) = printed_clean n into p.frame.made
  obey_clean (Return value) = returns_clean w p p.below (value_of w p.frame value)
  obey_clean Leave = returns_clean w p p.below zero_value

  work_clean : (o : Option Inst) → NoFault (slot_step.work frames_limit functions w p o)
  work_clean None = tt
  work_clean (Some i) = obey_clean i

-- What three-address code does is never a fault.
code_clean : (functions : List Function) (w v : source.World) (p : machine.Process) (number pc : ℕ)
    → slot_step.step frames_limit functions w p ≡ Ends v (Faulted number pc) → ⊥
code_clean functions w v p number pc e =
    subst NoFault e (work_clean functions w p (slot_step.fetch (slice_get functions p.frame.function) p.frame.pc))

pub never_faults : (m : Module) → IsProper m → NeverFaults m
never_faults m proper k w x y p r number pc h ws e =
    let g = subst (λ d. Matches (sides m) (place m) (place m r) k 0 w x p d) e (goes m proper k 0 w x ws p r h) in
    code_clean m.functions g.comes.world _ g.comes.before number pc g.comes.does
