-- The laws of function types and declarations: what is spelled so is read; what is read is spelled so; more budget changes
-- nothing but a fault of depth; and where such a fault stands.
use Rattle.std.proofs.Common.{◌≡◌, ℕ, ◌+◌, ◌≤◌, true, List, length, None, Ok}
use Rattle.std.specs.Prelude.{IfOk}
use Rattle.limbo_lexer.specs.declared.token.Kind.{Kind}
use Rattle.limbo_lexer.specs.declared.token.Mark.TheVariants as mark
use Rattle.limbo_lexer.specs.declared.token.Key.TheVariants as key
use Rattle.limbo_reading.specs.Reading.{after_mark, after_key}
use Rattle.limbo_reading.proofs.Steps.{Deepens, Keeps}
use Rattle.limbo_reading.proofs.Lists.{Took}
use Rattle.limbo_tree.specs.Decls.{FnType, Decl, spell_fn, is_fn, fn_nesting, spell_decl, IsDecl, decl_nesting}
use Rattle.limbo_expr_parts.specs.Strength.{Stops}
use Rattle.limbo_decl_parser.specs.Decls.{fn_at, decl_at}
use Rattle.limbo_decl_parser.proofs.Complete as complete
use Rattle.limbo_decl_parser.proofs.Sound as sound
use Rattle.limbo_decl_parser.proofs.Deepens as deepens
use Rattle.limbo_decl_parser.proofs.Places as places

pub fn_again : (b : ℕ) (f : FnType) (ts : List Kind) → is_fn f ≡ true → fn_nesting f ≤ b → Stops 0 ts → after_mark mark.Colon ts ≡ None → after_key key.Raises ts ≡ None → fn_at b (spell_fn f ts) ≡ Ok (f, ts)
fn_again b f ts g d s no_colon no_raises = complete.fn_again b f ts g d s no_colon no_raises

pub fn_took : (b : ℕ) (ts : List Kind) → IfOk (fn_at b ts) (Took spell_fn (λ f. (is_fn f ≡ true) × (fn_nesting f ≤ b)) ts)
fn_took b ts = sound.fn_took b ts

pub fn_deepens : (b c : ℕ) (ts : List Kind) → b ≤ c → Deepens (fn_at b ts) (fn_at c ts)
fn_deepens b c ts le = deepens.fn_deepens b c ts le

pub fn_keeps : (b : ℕ) (ts : List Kind) → Keeps (b + 2) 1 (length ts) (fn_at b ts)
fn_keeps b ts = places.fn_keeps b ts

pub decl_again : (b : ℕ) (d : Decl) (ts : List Kind) → IsDecl d → decl_nesting d ≤ b → decl_at b (spell_decl d ts) ≡ Ok (d, ts)
decl_again b d ts g n = complete.decl_again b d ts g n

pub decl_took : (b : ℕ) (ts : List Kind) → IfOk (decl_at b ts) (Took spell_decl (λ d. IsDecl d × (decl_nesting d ≤ b)) ts)
decl_took b ts = sound.decl_took b ts

pub decl_deepens : (b c : ℕ) (ts : List Kind) → b ≤ c → Deepens (decl_at b ts) (decl_at c ts)
decl_deepens b c ts le = deepens.decl_deepens b c ts le

pub decl_keeps : (b : ℕ) (ts : List Kind) → Keeps (b + 2) 1 (length ts) (decl_at b ts)
decl_keeps b ts = places.decl_keeps b ts
