-- The code of whole programs tells what the programs tell.
use Rattle.std.proofs.Common.{◌≡◌, ℕ, zero, suc, false, List, [], ◌∷◌, ◌++◌, Option, Some, None, refl, codes}
use Rattle.std.specs.Prelude.{slice_get}
use Rattle.std.specs.Int.{int_wrap}
use Rattle.std.specs.Fmt.{digits}
use Rattle.styx_msg.specs.declared.message.Rmsg.{Rmsg}
use Rattle.process_model.specs.Process.{Went, Asks, Ends, Doing, Ready, Asking, Gone, Requested, Replied, Over}
use Rattle.process_model.specs.Source.{Config, settled}
use Rattle.process_model.specs.Law.{begins}
use Rattle.limbo_types.specs.Types.{Chars, Int, Nothing, Tuple, NoTys, MoreTys}
use Rattle.limbo_values.specs.declared.number.Kind.TheVariants as kind
use Rattle.limbo_typed.specs.declared.operation.Operation.TheVariants as operation
use Rattle.limbo_typed.specs.declared.print.Hole.TheVariants as hole
use Rattle.limbo_typed.specs.declared.print.Piece.TheVariants as piece
use Rattle.limbo_typed.specs.declared.operation.Sequence.TheVariants as sequence
use Rattle.limbo_typed.specs.Typed as typed
use Rattle.limbo_typed.specs.Typed.{Of, Part, Filled, Present, Module}
use Rattle.system_model.specs.Prints.{Request}
use Rattle.system_model.specs.Ending.{Ending, Ended, Broken}
use Rattle.limbo_meaning.specs.Values.{Value, Ref}
use Rattle.limbo_meaning.specs.Places.{Local}
use Rattle.limbo_meaning.specs.Trees.{Operate, Read}
use Rattle.limbo_meaning.specs.Program.{program_of}
use Rattle.limbo_meaning.specs.Process.{Shared}
use Rattle.limbo_meaning.specs.Runs.{first_world, list_from}
use Rattle.limbo_meaning.specs.Alone.{Trace, reply_to}
use Rattle.limbo_meaning.proofs.Examples.{Tells, Prints, Frees, Stops, telling, sharing, list_goes, tree_goes, strings, others}
use Rattle.limbo_meaning.proofs.Examples.{reading_first, conversions, num, nil, cons, plus, read, var, item, set, items, up, print_number}
use Rattle.limbo_meaning.proofs.Examples.{exprs, apply, len, words_module}
use Rattle.limbo_meaning.proofs.Examples.{filling_first, storing_first, dropping, adding, three_texts, deciding}
use Rattle.limbo_meaning.proofs.Examples.{function, made_of, ints, int_list, outcome}
use Rattle.limbo_meaning.proofs.Temporaries.{unnamed_list, pairs, anew, walking, copies, endless, shapes, head_of, tail_of, pair_type}
use Rattle.core_code.specs.Code.{Give, Place, Print, Drop, Return, Function, Program}
use Rattle.core_code.specs.Machine.{Process, Does, frame_of, step, rules, naming}
use Rattle.core_code.specs.Statements.{code_of}

abbrev pub Running : Type 0
Running = Config Shared Process Value Request Rmsg Ending

abbrev pub stands : Doing Process Value → Shared → Trace → Running
stands d w trace = settled naming 0 (d ∷ []) w trace

abbrev pub after_reply : (Running → Running) → Rmsg → Running → Does → Running
after_reply rest a c (Went w p) = rest (stands (Ready p) w (c.trace ++ Replied 0 a ∷ []))
after_reply rest a c _ = c

abbrev pub asking : Process → Shared → Request → Trace → Running
asking p w m trace = stands (Asking p) w (trace ++ Requested 0 m ∷ [])

abbrev pub after_step : (limit : ℕ) → Program → (Running → Running) → Running → Does → Running
after_step limit program rest c (Went w p) = rest (stands (Ready p) w c.trace)
after_step limit program rest c (Asks w m p) =
    after_reply rest (reply_to m) (asking p w m c.trace)
    ((rules limit program).answer (reply_to m) (asking p w m c.trace).world p)
after_step limit program rest c (Ends w how) = stands Gone w (c.trace ++ Over 0 how ∷ [])
after_step limit program rest c _ = c

abbrev pub only_ready : (Running → Process → Running) → Running → List (Doing Process Value) → Running
only_ready on c (Ready p ∷ []) = on c p
only_ready on c _ = c

abbrev pub alone : (limit : ℕ) → Program → (steps : ℕ) → Running → Running
alone limit program zero c = c
alone limit program (suc n) c =
    only_ready (λ c p. after_step limit program (alone limit program n) c (step limit program c.world p)) c c.processes

abbrev pub first_function : Option Function → Function
first_function (Some g) = g
first_function None = record { variables = []; slots = 0; code = [] }

abbrev pub first_process : Module → Program → (words : List (List ℕ)) → Process
first_process m program words = record {
  number = 1;
  frame = frame_of m.adts 0 (first_function (slice_get program.functions 0)) Nothing (Ref None ∷ Ref (list_from 1 words) ∷ []);
  below = [];
  printing = None;
}

abbrev pub code_outcome : (limit : ℕ) → ℕ → Module → List (List ℕ) → List Tells
code_outcome limit n m words =
    let program = code_of (program_of m) in telling (alone limit program n
    (begins (first_world m words) (first_process m program words))).trace

-- slices share, and the array stays with its part
same_sharing : code_outcome 10000 120 sharing [] ≡ Prints (codes "9") ∷ Prints (codes "2") ∷ Stops Ended ∷ Frees (0 ∷ 1 ∷ []) ∷ []
unfolding sharing int_wrap digits lib.Utf8.encode
same_sharing = refl

-- a list of which nothing is left but what its statement holds
same_unnamed :
    code_outcome 10000 60 unnamed_list [] ≡
    Prints (codes "2") ∷ Frees (2 ∷ []) ∷ Frees (1 ∷ []) ∷ Prints (codes "3") ∷ Stops Ended ∷ Frees (0 ∷ []) ∷ []
unfolding unnamed_list int_wrap digits lib.Utf8.encode
same_unnamed = refl

same_list :
    code_outcome 10000 100 list_goes [] ≡
    Prints (codes "2") ∷ Frees (2 ∷ []) ∷ Prints (codes "1") ∷ Frees (1 ∷ []) ∷ Prints (codes "0") ∷ Stops Ended ∷ Frees (0 ∷ []) ∷ []
unfolding list_goes int_wrap digits lib.Utf8.encode
same_list = refl

same_tree :
    code_outcome 10000 120 tree_goes [] ≡ Prints (codes "7") ∷ Frees (1 ∷ 2 ∷ 3 ∷ []) ∷ Prints (codes "0") ∷ Stops Ended ∷ Frees
    (0 ∷ []) ∷ []
unfolding tree_goes int_wrap digits lib.Utf8.encode
same_tree = refl

same_strings :
    code_outcome 10000 120 strings [] ≡
    Prints (codes "xbc") ∷ Prints (codes "abbc") ∷ Stops (Broken (codes "array bounds error")) ∷ Frees (0 ∷ []) ∷ []
unfolding strings int_wrap digits lib.Utf8.encode
same_strings = refl

same_others :
    code_outcome 10000 200 others [] ≡
    Prints (codes "0") ∷ Prints (codes "1") ∷ Prints (codes "7") ∷ Prints (codes "2") ∷ Stops (Broken (codes "array bounds error"))
    ∷ Frees (0 ∷ 1 ∷ []) ∷ []
unfolding others int_wrap digits lib.Utf8.encode
same_others = refl

same_reading : code_outcome 10000 100 reading_first [] ≡ Prints (codes "3") ∷ Prints (codes "11") ∷ Stops Ended ∷ Frees (0 ∷ []) ∷ []
unfolding reading_first int_wrap digits lib.Utf8.encode
same_reading = refl

-- a tuple's parts move into its slot, and both places take theirs
same_pairs :
    code_outcome 10000 200 pairs [] ≡
    Frees (2 ∷ []) ∷ Prints (codes "7") ∷ Frees (1 ∷ []) ∷ Prints (codes "0") ∷ Stops (Broken (codes "dereference of nil")) ∷ Frees
    (0 ∷ []) ∷ []
unfolding pairs int_wrap digits lib.Utf8.encode
same_pairs = refl

-- the chain of an initialiser's turns
same_anew :
    code_outcome 10000 200 anew [] ≡ Prints (codes "1") ∷ Frees (1 ∷ 2 ∷ 3 ∷ []) ∷ Prints (codes "0") ∷ Stops Ended ∷ Frees (0 ∷ []) ∷ []
unfolding anew int_wrap digits lib.Utf8.encode
same_anew = refl

-- a decision and its mirror, in the condition of a loop
same_walking :
    code_outcome 10000 200 walking [] ≡ Prints (codes "1") ∷ Frees (2 ∷ []) ∷ Prints (codes "1") ∷ Stops Ended ∷ Frees (0 ∷ 1 ∷ []) ∷ []
unfolding walking int_wrap digits lib.Utf8.encode
same_walking = refl

same_copies :
    code_outcome 10000 200 copies [] ≡
    Prints (codes "3") ∷ Prints (codes "1") ∷ Frees (2 ∷ []) ∷ Stops (Broken (codes "array bounds error")) ∷ Frees (0 ∷ 1 ∷ []) ∷ []
unfolding copies int_wrap digits lib.Utf8.encode
same_copies = refl

same_endless : code_outcome 3 60 endless [] ≡ Stops (Broken (codes "stack overflow")) ∷ Frees (0 ∷ 1 ∷ 2 ∷ []) ∷ []
unfolding endless int_wrap
same_endless = refl

same_shapes :
    code_outcome 10000 200 shapes [] ≡
    Prints (codes "1") ∷ Prints (codes "4") ∷ Prints (codes "6") ∷ Prints (codes "0") ∷ Prints (codes "abffffffff") ∷ Stops Ended
    ∷ Frees (0 ∷ 1 ∷ 2 ∷ []) ∷ []
unfolding shapes int_wrap digits lib.Utf8.encode
same_shapes = refl

-- the words of the program
same_words :
    code_outcome 10000 120 words_module (codes "prog" ∷ codes "one" ∷ []) ≡
    Frees (1 ∷ []) ∷ Prints (codes "one") ∷ Prints (codes "0") ∷ Prints (codes "1") ∷ Stops Ended ∷ Frees (0 ∷ 2 ∷ []) ∷ []
unfolding words_module int_wrap digits lib.Utf8.encode
same_words = refl

-- strings to bytes and back, and numbers to strings and back
same_conversions :
    code_outcome 10000 120 conversions [] ≡
    Prints (codes "3") ∷ Prints (97 ∷ 195 ∷ 169 ∷ []) ∷ Prints (97 ∷ 239 ∷ 191 ∷ 189 ∷ 239 ∷ 191 ∷ 189 ∷ []) ∷ Prints (codes "-12")
    ∷ Prints (codes "7") ∷ Stops Ended ∷ Frees (0 ∷ 1 ∷ []) ∷ []
unfolding conversions int_wrap digits lib.Utf8.encode Rattle.std.specs.Str.chars
same_conversions = refl

-- a value is evaluated before the element is looked for that it is stored into
same_filling :
    code_outcome 10000 60 filling_first [] ≡ Prints (codes "7") ∷ Stops (Broken (codes "array bounds error")) ∷ Frees (0 ∷ 1 ∷ []) ∷ []
unfolding filling_first int_wrap digits lib.Utf8.encode
same_filling = refl

same_storing :
    code_outcome 10000 60 storing_first [] ≡ Prints (codes "7") ∷ Stops (Broken (codes "array bounds error")) ∷ Frees (0 ∷ 1 ∷ []) ∷ []
unfolding storing_first int_wrap digits lib.Utf8.encode
same_storing = refl

-- two references of one slot go in two steps
same_dropping : code_outcome 10000 60 dropping [] ≡ Frees (1 ∷ []) ∷ Frees (2 ∷ []) ∷ Prints (codes "0") ∷ Stops Ended ∷ Frees (0 ∷ []) ∷ []
unfolding dropping int_wrap digits lib.Utf8.encode
same_dropping = refl

-- the place of `+=` is read first
same_adding : code_outcome 10000 60 adding [] ≡ Prints (codes "3") ∷ Stops Ended ∷ Frees (0 ∷ []) ∷ []
unfolding adding int_wrap digits lib.Utf8.encode
same_adding = refl

-- a character changes in one string alone
same_texts :
    code_outcome 10000 200 three_texts [] ≡
    Prints (codes "ax") ∷ Prints (codes "ab") ∷ Prints (codes "ab") ∷ Prints (codes "ax") ∷ Prints (codes "yb") ∷ Prints (codes "ab")
    ∷ Prints (codes "ax") ∷ Prints (codes "yb") ∷ Prints (codes "zb") ∷ Stops Ended ∷ Frees (0 ∷ 1 ∷ []) ∷ []
unfolding three_texts int_wrap digits lib.Utf8.encode
same_texts = refl

-- a right operand is evaluated only where the left one doesn't decide
same_deciding :
    code_outcome 10000 200 deciding [] ≡
    Prints (codes "0") ∷ Prints (codes "0") ∷ Prints (codes "1") ∷ Prints (codes "0") ∷ Prints (codes "1") ∷ Prints (codes "1")
    ∷ Prints (codes "1") ∷ Prints (codes "2") ∷ Stops Ended ∷ Frees (0 ∷ []) ∷ []
unfolding deciding int_wrap digits lib.Utf8.encode
same_deciding = refl

-- ---- l := 7 :: nil; n := 1; a := array[5] of {n + 1, hd l, n + n + 2, * => n++};  and prints of all five

unfoldable pub mixed : Module
mixed = made_of [] [] (function [] Nothing (int_list ∷ Int ∷ ints ∷ [])
    (set (var int_list 0) (cons int_list (num 7) (nil int_list))
    ∷ set (var Int 1) (num 1)
    ∷ set (var ints 2) (Of ints (Filled (Present (num 5)) (items ((0, plus (read (var Int 1)) (num 1))
    ∷ (1, head_of (read (var int_list 0)))
    ∷ (2, plus (plus (read (var Int 1)) (read (var Int 1))) (num 2))
    ∷ [])) (Present (up (var Int 1)))))
    ∷ print_number (read (item Int (read (var ints 2)) (num 0)))
    ∷ print_number (read (item Int (read (var ints 2)) (num 1)))
    ∷ print_number (read (item Int (read (var ints 2)) (num 2)))
    ∷ print_number (read (item Int (read (var ints 2)) (num 3)))
    ∷ print_number (read (item Int (read (var ints 2)) (num 4)))
    ∷ []) ∷ [])

mixed_tells :
    outcome 400 mixed [] ≡
    Prints (codes "2") ∷ Prints (codes "7") ∷ Prints (codes "4") ∷ Prints (codes "1") ∷ Prints (codes "2") ∷ Stops Ended ∷ Frees
    (0 ∷ 1 ∷ 2 ∷ []) ∷ []
unfolding mixed int_wrap digits lib.Utf8.encode
mixed_tells = refl

same_mixed :
    code_outcome 10000 300 mixed [] ≡
    Prints (codes "2") ∷ Prints (codes "7") ∷ Prints (codes "4") ∷ Prints (codes "1") ∷ Prints (codes "2") ∷ Stops Ended ∷ Frees
    (0 ∷ 1 ∷ 2 ∷ []) ∷ []
unfolding mixed int_wrap digits lib.Utf8.encode
same_mixed = refl

-- The elements that hold nothing share five slots, from 2 to 6, as many as `n + n + 2` needs; `hd l` has 7 and 8, and 9 counts.
mixed_slots : (first_function (slice_get (code_of (program_of mixed)).functions 0)).slots ≡ 10
unfolding mixed
mixed_slots = refl

-- ---- sys->print("%d", hd tl l);  both references go at the end, in the order in which they were got

unfoldable pub second : Module
second = made_of [] [] (function [] Nothing (int_list ∷ []) (print_number (head_of (tail_of (read (var int_list 0)))) ∷ []) ∷ [])

second_code :
    (first_function (slice_get (code_of (program_of second)).functions 0)).code ≡
    Give int_list (Read (record { root = Local 0; parts = []; character = false })) 0 []
    ∷ Give int_list (Operate operation.Tail) 1 (0 ∷ [])
    ∷ Give Int (Operate operation.Head) 2 (1 ∷ [])
    ∷ Place (Tuple (MoreTys Chars (MoreTys Int NoTys))) None 0 1 3 2
    ∷ Print (piece.Hole (hole.Decimal kind.Int) ∷ []) 4 (Some 3)
    ∷ Drop 0 0
    ∷ Drop 1 0
    ∷ Return None
    ∷ []
unfolding second
second_code = refl

-- ---- pair(l: list of int): (int, list of int) { return (hd l, tl l); }  init() { l := 7 :: 8 :: nil; sys->print("%d", len (pair(l)).t1);
-- l = nil; sys->print("%d", 1); }  the part of the answer goes at the end of its statement

unfoldable pub parted : Module
parted = made_of [] [] (function [] Nothing (int_list ∷ [])
    (set (var int_list 0) (cons int_list (num 7) (cons int_list (num 8) (nil int_list)))
    ∷ print_number (len (operation.Length sequence.List)
    (Of int_list (Part (Of pair_type (typed.Call 1 (exprs (read (var int_list 0) ∷ [])))) 1)))
    ∷ set (var int_list 0) (nil int_list)
    ∷ print_number (num 1)
    ∷ [])
    ∷ function (int_list ∷ []) pair_type (int_list ∷ [])
    (typed.Return (Some (apply pair_type operation.Tuple (head_of (read (var int_list 0)) ∷ tail_of (read (var int_list 0)) ∷ []))) ∷ [])
    ∷ [])

parted_tells :
    outcome 400 parted [] ≡ Prints (codes "1") ∷ Frees (1 ∷ 2 ∷ []) ∷ Prints (codes "1") ∷ Stops Ended ∷ Frees (0 ∷ []) ∷ []
unfolding parted int_wrap digits lib.Utf8.encode
parted_tells = refl

same_parted :
    code_outcome 10000 300 parted [] ≡ Prints (codes "1") ∷ Frees (1 ∷ 2 ∷ []) ∷ Prints (codes "1") ∷ Stops Ended ∷ Frees (0 ∷ []) ∷ []
unfolding parted int_wrap digits lib.Utf8.encode
same_parted = refl
