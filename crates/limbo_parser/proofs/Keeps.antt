-- Readers of sources take tokens, and keep the budget: what a fault of depth stands behind.
use Rattle.std.proofs.Common.{ℕ, suc, ◌+◌, ◌≤◌, Bool, true, false, cond, List, [], ◌∷◌, length, Result, Ok, Err, arith}
use Rattle.limbo_lexer.specs.declared.token.Kind.{Kind}
use Rattle.limbo_lexer.specs.declared.token.Kind.TheVariants as kind
use Rattle.limbo_lexer.specs.declared.token.Mark.TheVariants as mark
use Rattle.limbo_lexer.specs.declared.token.Key.TheVariants as key
use Rattle.limbo_reading.specs.declared.fault.Fault.{Fault}
use Rattle.limbo_reading.specs.declared.fault.Fault.TheVariants.{Syntax, TooDeep}
use Rattle.limbo_reading.specs.Reading.{◌>>=◌, after_mark, after_key, expect_key, expect_name}
use Rattle.limbo_reading.proofs.Steps.{Keeps, keeps_less, keeps_bind, keeps_rest, keeps_choose, keeps_if, keeps_key, keeps_name, after_mark_length, after_key_length}
use Rattle.limbo_reading.proofs.Lists.{until_keeps}
use Rattle.limbo_decl_parser.specs.Decls.{decl_at, fn_at}
use Rattle.limbo_stmt_parser.specs.Stmts.{block_at}
use Rattle.limbo_parser.specs.Sources.{defines, part_at, defined_at, expect_chars, top_at, is_last, at_end, tops_at, implements_at, tree_at}
use Rattle.limbo_decl_parser.proofs.Laws.{fn_keeps, decl_keeps}
use Rattle.limbo_stmt_parts.proofs.Patterns.{keeps_to}
use Rattle.limbo_stmt_parser.proofs.Keep.{no_less, keeps_sign, block_at_keeps, block_at_kept}

part_keeps : (b : ℕ) (ts : List Kind) → Keeps b 0 (length ts) (part_at ts)
part_keeps b ts =
    keeps_choose b 0 (length ts) (after_mark mark.Dot ts) _ _ (λ n. omega arith) λ us e.
    keeps_less b 1 0 (length us) (length ts) _ (keeps_bind b 1 0 1 (length us) (expect_name us) _ (keeps_name b us) (λ n h. omega arith) (omega arith)) (omega (arith, after_mark_length mark.Dot ts us e)) (omega (arith, after_mark_length mark.Dot ts us e))

-- the name that begins a definition is a token before its fault
defined_keeps : (b : ℕ) (ts : List Kind) → Keeps (suc b + 1) 1 (length ts) (defined_at (suc b) ts)
unfolding defined_at
defined_keeps b ts =
    keeps_bind (suc b + 1) 1 0 1 (length ts) (expect_name ts) _ (keeps_name (suc b + 1) ts) (λ n h.
    keeps_bind (suc b + 1) 0 0 0 (length n.1) (part_at n.1) _ (part_keeps (suc b + 1) n.1) (λ part i.
    behind part.1 (fn_at (suc b) part.1) _ (fn_keeps (suc b) part.1) (λ f. keeps_bind (suc b) 2 0 0 (length f.1) (block_at (suc b) f.1) _ (block_at_keeps b f.1) (λ x j. omega arith) (omega arith))) (omega arith)) (omega arith)
  where
    behind : {A B : Type 0} (us : List Kind) (r : Result (A × List Kind) Fault) (k : A × List Kind → Result (B × List Kind) Fault) → Keeps (suc b + 2) 1 (length us) r → ((x : A × List Kind) → Keeps (suc b) 0 (length x.1) (k x)) → Keeps (suc b + 1) 0 (length us) (r >>= k)
    behind us (Ok x) k h f = keeps_to (suc b) (suc b + 1) 0 0 (length x.1) (length us) (k x) (f x) (omega arith) (omega arith)
    behind us (Err (Syntax n)) k h f = tt
    behind us (Err (TooDeep n)) k h f = omega arith

chars_keep : (b : ℕ) (ts : List Kind) → Keeps b 1 (length ts) (expect_chars ts)
chars_keep b [] = tt
chars_keep b (kind.Chars s ∷ ts) = omega arith
chars_keep b (_ ∷ ts) = tt

pub top_keeps : (b : ℕ) (ts : List Kind) → Keeps (suc b + 1) 1 (length ts) (top_at (suc b) ts)
unfolding top_at
top_keeps b ts =
    keeps_choose (suc b + 1) 1 (length ts) (after_key key.Include ts) _ _
    (λ n. keeps_if (suc b + 1) 1 (length ts) (defines ts) _ _ (defined_keeps b ts)
    (keeps_bind (suc b + 1) 1 0 1 (length ts) (decl_at (suc b) ts) _ (keeps_to (suc b + 2) (suc b + 1) 1 1 (length ts) (length ts) _ (decl_keeps (suc b) ts) (omega arith) (omega arith)) (λ d h. omega arith) (omega arith)))
    λ us e. keeps_less (suc b + 1) 2 1 (length us) (length ts) _
    (keeps_bind (suc b + 1) 1 1 2 (length us) (expect_chars us) _ (chars_keep (suc b + 1) us) (λ s h. keeps_sign (suc b + 1) 0 mark.Semicolon s.1 _ λ vs. omega arith) (omega arith))
    (omega (arith, after_key_length key.Include ts us e)) (omega (arith, after_key_length key.Include ts us e))

-- a whole reader's fault of depth stands behind at least b tokens
abbrev pub KeepsAll : {A : Type 0} → ℕ → ℕ → Result A Fault → Type 0
KeepsAll b n (Ok x) = Unit {0}
KeepsAll b n (Err (Syntax m)) = Unit {0}
KeepsAll b n (Err (TooDeep m)) = m + b ≤ n

all_bind : {A B : Type 0} (b n : ℕ) (r : Result (A × List Kind) Fault) (k : A × List Kind → Result B Fault) → Keeps b 0 n r → ((x : A × List Kind) → KeepsAll b (length x.1) (k x)) → KeepsAll b n (r >>= k)
all_bind b n (Ok x) k h f = less (k x) (f x)
  where
    less : {B : Type 0} (s : Result B Fault) → KeepsAll b (length x.1) s → KeepsAll b n s
    less (Ok y) i = tt
    less (Err (Syntax m)) i = tt
    less (Err (TooDeep m)) i = omega arith
all_bind b n (Err (Syntax m)) k h f = tt
all_bind b n (Err (TooDeep m)) k h f = h

all_if : {A : Type 0} (b n : ℕ) (t : Bool) (x : A) (m : ℕ) → KeepsAll b n (cond t (Ok x) (Err (Syntax m)))
all_if b n true x m = tt
all_if b n false x m = tt

implements_keep : (b : ℕ) (included : Bool) (ts : List Kind) → Keeps b 0 (length ts) (implements_at included ts)
unfolding implements_at
implements_keep b true ts = omega arith
implements_keep b false ts =
    keeps_rest b 0 0 (length ts) (expect_key key.Implement ts) _ (keeps_key key.Implement ts) (λ us h.
    keeps_bind b 1 0 0 (length us) (expect_name us) _ (keeps_name b us) (λ n i.
    keeps_less b 1 0 (length n.1) (length n.1) _ (keeps_sign b 0 mark.Semicolon n.1 _ λ vs. omega arith) (omega arith) (omega arith)) (omega arith)) (omega arith)

pub tree_keeps : (b : ℕ) (included : Bool) (ts : List Kind) → KeepsAll (suc b + 1) (length ts) (tree_at (suc b) included ts)
unfolding tree_at tops_at
tree_keeps b included ts =
    all_bind (suc b + 1) (length ts) (implements_at included ts) _ (implements_keep (suc b + 1) included ts) λ n.
    all_bind (suc b + 1) (length n.1) _ _ (until_keeps (suc b + 1) (top_at (suc b)) (λ us. Ok (at_end us)) (λ us. tt) (λ us. no_less (suc b + 1) us _ (top_keeps b us)) (suc (length n.1)) n.1) λ tops.
    all_if (suc b + 1) (length tops.1) (is_last tops.1) _ _

-- ---- with any budget a token is taken

defined_kept : (b : ℕ) (ts : List Kind) → Keeps 0 1 (length ts) (defined_at b ts)
unfolding defined_at
defined_kept b ts =
    keeps_bind 0 1 0 1 (length ts) (expect_name ts) _ (keeps_name 0 ts) (λ n h.
    keeps_bind 0 0 0 0 (length n.1) (part_at n.1) _ (part_keeps 0 n.1) (λ part i.
    keeps_bind 0 1 0 0 (length part.1) (fn_at b part.1) _ (keeps_to (b + 2) 0 1 1 (length part.1) (length part.1) _ (fn_keeps b part.1) (omega arith) (omega arith)) (λ f j.
    keeps_bind 0 1 0 0 (length f.1) (block_at b f.1) _ (block_at_kept b f.1) (λ x k. omega arith) (omega arith)) (omega arith)) (omega arith)) (omega arith)

pub top_kept : (b : ℕ) (ts : List Kind) → Keeps 0 1 (length ts) (top_at b ts)
unfolding top_at
top_kept b ts =
    keeps_choose 0 1 (length ts) (after_key key.Include ts) _ _
    (λ n. keeps_if 0 1 (length ts) (defines ts) _ _ (defined_kept b ts)
    (keeps_bind 0 1 0 1 (length ts) (decl_at b ts) _ (keeps_to (b + 2) 0 1 1 (length ts) (length ts) _ (decl_keeps b ts) (omega arith) (omega arith)) (λ d h. omega arith) (omega arith)))
    λ us e. keeps_less 0 2 1 (length us) (length ts) _
    (keeps_bind 0 1 1 2 (length us) (expect_chars us) _ (chars_keep 0 us) (λ s h. keeps_sign 0 0 mark.Semicolon s.1 _ λ vs. omega arith) (omega arith))
    (omega (arith, after_key_length key.Include ts us e)) (omega (arith, after_key_length key.Include ts us e))
