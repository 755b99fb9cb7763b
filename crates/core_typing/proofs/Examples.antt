-- Which references of slots may name something while the code of small trees runs, and small code that goes well.
use Rattle.std.proofs.Common.{◌≡◌, ℕ, pos, true, false, List, [], ◌∷◌, replicate, Some, None, refl, inl, rules, arith, take}
use Rattle.limbo_types.specs.Types as ty
use Rattle.limbo_types.specs.Types.{Ty, Int, Chars, ListOf, Tuple, NoTys, MoreTys}
use Rattle.limbo_layout.specs.Layout.{number, reference, is_alone}
use Rattle.limbo_values.specs.declared.number.Kind.TheVariants as kind
use Rattle.limbo_values.specs.declared.operator.Operator.TheVariants as operator
use Rattle.limbo_typed.specs.Fitting.{IsNumber}
use Rattle.limbo_typed.specs.declared.operation.Operation.TheVariants as operation
use Rattle.limbo_typed.specs.declared.print.Hole.TheVariants as hole
use Rattle.limbo_typed.specs.declared.print.Piece.TheVariants as piece
use Rattle.limbo_typed.specs.declared.stmt.Constant.TheVariants as constant
use Rattle.limbo_meaning.specs.Places.{Way, Local}
use Rattle.limbo_meaning.specs.Trees as tree
use Rattle.limbo_meaning.specs.Trees.{Operate, Term, Node, Fill, NoTerms, MoreTerms, NoItems, Eval, Then, Done}
use Rattle.limbo_meaning.specs.Program.{Routine}
use Rattle.limbo_kept.specs.Operating.{HasRoom}
use Rattle.limbo_kept.specs.Permitting.{Anything}
use Rattle.limbo_kept.specs.Trees.{Scope}
use Rattle.core_code.specs.Code.{Instr, Give, Place, Call, Drop, Return}
use Rattle.core_code.specs.Terms.{lower}
use Rattle.core_code.specs.Statements.{whole, function_of}
use Rattle.core_typing.specs.Held.{Held, Of, Forming, Slots, empty}
use Rattle.core_typing.specs.Going.{Stand, behind, Goes}
use Rattle.core_typing.specs.Runs.{Runs}
use Rattle.core_typing.proofs.Going.{goes_next}
use Rattle.core_typing.proofs.Standing.{itself, tuple_room}

-- ---- what is known behind code that goes one way

abbrev first_of : Slots → List Stand → Slots
first_of slots [] = slots
first_of slots (a ∷ more) = a.slots

abbrev behind_all : List Instr → Slots → Slots
behind_all [] slots = slots
behind_all (i ∷ is) slots = behind_all is (first_of slots (behind [] 0 slots i))

abbrev list : Ty
list = ListOf Int

abbrev three : Ty
three = Tuple (MoreTys list (MoreTys list (MoreTys list NoTys)))

abbrev call : Ty → Term
call t = Node t (tree.Call 0) NoTerms

-- nil alone: nothing is dropped, and nothing may be named
abbrev nil : Term
nil = Node list tree.Nil NoTerms

nil_dropped : (lower [] 0 nil).drops ≡ []
nil_dropped = refl

nil_known : behind_all (whole [] nil) (replicate 1 empty) ≡ Of list [] ∷ []
nil_known = refl

-- (f(), nil, f()): of the tuple's references the first and the third go, and those alone may name something before
abbrev row : Term
row = Node three (Operate operation.Tuple) (MoreTerms (call list) (MoreTerms nil (MoreTerms (call list) NoTerms)))

row_dropped : (lower [] 0 row).drops ≡ Drop 3 0 ∷ Drop 3 2 ∷ []
row_dropped = refl

row_known : behind_all (lower [] 0 row).code (replicate 4 empty) ≡ empty ∷ empty ∷ empty ∷ Of three (0 ∷ 2 ∷ []) ∷ []
row_known = refl

row_clean : behind_all (whole [] row) (replicate 4 empty) ≡ empty ∷ empty ∷ empty ∷ Of three [] ∷ []
row_clean = refl

-- A list without items is held as nil, also in a tuple where a list is asked for.
abbrev single : Ty
single = Tuple (MoreTys list NoTys)

abbrev no_items : Term
no_items = Node single (Operate operation.Tuple) (MoreTerms (Node list tree.Link NoTerms) NoTerms)

items_known : behind_all (take 2 (lower [] 0 no_items).code) (replicate 2 empty)
    ≡ empty ∷ Forming single None (0 ∷ []) (ty.Nil ∷ []) [] ∷ []
items_known = refl

-- the second part of what a function gives: its reference goes where the part is, between the others
abbrev part : Term
part = Node list (tree.TakePart 1) (MoreTerms (call three) NoTerms)

part_dropped : (lower [] 0 part).drops ≡ Drop 0 0 ∷ Drop 1 0 ∷ Drop 0 2 ∷ []
part_dropped = refl

part_known : behind_all (lower [] 0 part).code (replicate 2 empty) ≡ Of three (0 ∷ 2 ∷ []) ∷ Of list (0 ∷ []) ∷ []
part_known = refl

part_clean : behind_all (whole [] part) (replicate 2 empty) ≡ Of three [] ∷ Of list [] ∷ []
part_clean = refl

-- print("%d", f()): what is printed is the second part of a tuple that begins with a text, and stays there
abbrev shown : Term
shown = Node Int (tree.Print (piece.Hole (hole.Decimal kind.Int) ∷ [])) (MoreTerms (call Int) NoTerms)

abbrev text_and_int : Ty
text_and_int = Tuple (MoreTys Chars (MoreTys Int NoTys))

shown_known : behind_all (take 2 (lower [] 0 shown).code) (replicate 3 empty)
    ≡ empty ∷ Forming text_and_int None (1 ∷ []) (Int ∷ []) [] ∷ empty ∷ []
shown_known = refl

shown_clean : behind_all (whole [] shown) (replicate 3 empty) ≡ empty ∷ Of text_and_int [] ∷ Of Int [] ∷ []
shown_clean = refl

-- ---- initialisers within others

abbrev number_of : ℕ → Term
number_of n = Node Int (tree.Literal (constant.Number (pos n))) NoTerms

-- array[3] of {* => e}, and array[2] of {* => array[3] of {* => e}}
abbrev line : Ty → Term → Term
line t e = Fill t (number_of 3) NoItems (MoreTerms e NoTerms)

abbrev grid : Ty → Term → Term
grid t e = Fill (ty.ArrayOf t) (number_of 2) NoItems (MoreTerms (line t e) NoTerms)

-- A constant holds nothing, so the inner one has no chain.
constants_run : Runs [] (grid Int (number_of 0))
constants_run = ((tt, tt), tt, (((tt, tt), tt, ((tt, tt), λ h. tt)), λ h. (tt, tt, refl)))

-- What a function gives may be held: then the inner one has a chain, and is run where it stands alone, but not within the other.
calls_run : Runs [] (line list (call list))
calls_run = ((tt, tt), tt, ((tt, tt), λ h. tt))

calls_run_not : Runs [] (grid list (call list)) → ⊥
calls_run_not r = let e : true ≡ false = (r.2.1 refl).2 in absurd cc

-- ---- f(a) + 1, of a list a, goes well to its end

abbrev scope : Scope
scope = record {
  adts = [];
  globals = [];
  signatures = record { takes = list ∷ []; answer = Int; variables = list ∷ [] } ∷ [];
  variables = list ∷ [];
  stores = Anything;
}

abbrev place : Way
place = record { root = Local 0; parts = []; character = false }

abbrev sum : Term
sum = Node Int (Operate (operation.Arithmetic operator.Add kind.Int))
    (MoreTerms (Node Int (tree.Call 0) (MoreTerms (Node list (tree.Read place) NoTerms) NoTerms))
    (MoreTerms (Node Int (tree.Literal (constant.Number (pos 1))) NoTerms) NoTerms))

abbrev body : Routine
body = record { variables = list ∷ []; body = Then (Eval sum) Done }

abbrev arguments : Ty
arguments = Tuple (MoreTys list NoTys)

abbrev codes : List Instr
codes =
    Give list (tree.Read place) 0 []
    ∷ Place arguments None 0 0 1 0
    ∷ Call Int 0 2 (Some 1)
    ∷ Give Int (tree.Literal (constant.Number (pos 1))) 3 []
    ∷ Give Int (Operate (operation.Arithmetic operator.Add kind.Int)) 4 (2 ∷ 3 ∷ [])
    ∷ Drop 1 0
    ∷ Return None
    ∷ []

its_code : (function_of [] body).code ≡ codes
its_code = refl

one_in_range : IsNumber Int (pos 1)
one_in_range = record { above = search rules; below = search rules }

list_room : HasRoom [] list
list_room = (reference, is_alone list reference refl)

int_room : HasRoom [] Int
int_room = (number 4, is_alone Int (number 4) refl)

abbrev GoesIn : ℕ → (pc : ℕ) → Slots → Type 0
GoesIn n pc slots = Goes scope ty.Nothing codes n pc slots

-- What is known of the slots: the first had the list, which is the call's operand, the others come to have numbers.
abbrev known : (operands : Held) → (second third fourth : Ty) → Slots
known h t u v = empty ∷ h ∷ Of t [] ∷ Of u [] ∷ Of v [] ∷ []

abbrev whole_one : List ℕ → Held
whole_one live = Of arguments live

-- Behind the return there is nothing. In front of it the list's reference goes, and no slot names anything then.
leaves : (slots : Slots) → GoesIn 3 6 slots
leaves slots = (Return None, refl, tt, tt, λ k d l. absurd (omega arith))

drops : GoesIn 4 5 (known (whole_one (0 ∷ [])) Int Int Int)
drops =
    goes_next scope ty.Nothing codes 3 5 6 (known (whole_one (0 ∷ [])) Int Int Int) (known (whole_one []) Int Int Int) (Drop 1 0) refl
    (arguments, refl, omega arith) (arguments, refl, refl) refl (leaves (known (whole_one []) Int Int Int))

adds : GoesIn 5 4 (known (whole_one (0 ∷ [])) Int Int ty.Nothing)
adds =
    goes_next scope ty.Nothing codes 4 4 5 (known (whole_one (0 ∷ [])) Int Int ty.Nothing) (known (whole_one (0 ∷ [])) Int Int Int)
    (Give Int (Operate (operation.Arithmetic operator.Add kind.Int)) 4 (2 ∷ 3 ∷ [])) refl (
      Int ∷ Int ∷ [],
      ((Int, refl, itself Int), ((Int, refl, itself Int), tt)),
      ((refl, refl), int_room, int_room, inl refl),
      refl,
      (omega arith, (omega arith, tt)),
    ) (refl, tt) refl
    drops

counts : GoesIn 6 3 (known (whole_one (0 ∷ [])) Int ty.Nothing ty.Nothing)
counts =
    goes_next scope ty.Nothing codes 5 3 4 (known (whole_one (0 ∷ [])) Int ty.Nothing ty.Nothing)
    (known (whole_one (0 ∷ [])) Int Int ty.Nothing)
    (Give Int (tree.Literal (constant.Number (pos 1))) 3 []) refl ([], tt, (one_in_range, tt, int_room, inl refl), refl, tt)
    tt refl adds

abbrev operand : Held
operand = Forming arguments None (0 ∷ []) (list ∷ []) (0 ∷ [])

calls : GoesIn 7 2 (known operand ty.Nothing ty.Nothing ty.Nothing)
calls =
    goes_next scope ty.Nothing codes 6 2 3 (known operand ty.Nothing ty.Nothing ty.Nothing)
    (known (whole_one (0 ∷ [])) Int ty.Nothing ty.Nothing) (Call Int 0 2 (Some 1)) refl (
      list ∷ [],
      (record { takes = list ∷ []; answer = Int; variables = list ∷ [] }, refl, (inl refl, tt), refl, inl refl),
      (list ∷ [], (itself list, tt), (0 ∷ [], refl)),
      refl,
    )
    (arguments, refl, refl) refl counts

abbrev read : Slots
read = Of list (0 ∷ []) ∷ empty ∷ empty ∷ empty ∷ empty ∷ []

places : GoesIn 8 1 read
places =
    goes_next scope ty.Nothing codes 7 1 2 read (known operand ty.Nothing ty.Nothing ty.Nothing) (Place arguments None 0 0 1 0) refl (
      list,
      refl,
      tuple_room [] (list ∷ []) (list_room, tt),
      (list, refl, itself list),
      (λ e. absurd cc),
      inl (refl, refl),
    )
    (λ h. h, refl, tt) refl calls

nine_go : GoesIn 9 0 (replicate 5 empty)
nine_go =
    goes_next scope ty.Nothing codes 8 0 1 (replicate 5 empty) read
    (Give list (tree.Read place) 0 []) refl (
      [],
      tt,
      (
        record { root = list; room = list_room; begins = refl; inner = list; leads = refl; ends = refl; indexed = λ e. absurd cc },
        list_room,
        inl refl,
      ),
      refl,
      tt,
    )
    tt refl places
