use Rattle.std.proofs.Common.{sym, ap, ◌∙◌}
use Rattle.limbo_tree.specs.Spans.{span_of}
use Rattle.limbo_tree.proofs.Standing as standing
use Rattle.limbo_tree.proofs.spans.span_of.Goals as goal

pub returns-in-Assign : goal.returns-in-Assign
returns-in-Assign c = sym (ap span_of c.in-Assign.is ∙ standing.span_of-Assign _ _ _ _)

pub returns-in-Load : goal.returns-in-Load
returns-in-Load c = sym (ap span_of c.in-Load.is ∙ standing.span_of-Load _ _ _)

pub returns-in-Binary : goal.returns-in-Binary
returns-in-Binary c = sym (ap span_of c.in-Binary.is ∙ standing.span_of-Binary _ _ _ _)

pub returns-in-Unary : goal.returns-in-Unary
returns-in-Unary c = sym (ap span_of c.in-Unary.is ∙ standing.span_of-Unary _ _ _)

pub returns-in-Bytes : goal.returns-in-Bytes
returns-in-Bytes c = sym (ap span_of c.in-Bytes.is ∙ standing.span_of-Bytes _ _)

pub returns-in-Filled : goal.returns-in-Filled
returns-in-Filled c = sym (ap span_of c.in-Filled.is ∙ standing.span_of-Filled _ _ _ _)

pub returns-in-Sized : goal.returns-in-Sized
returns-in-Sized c = sym (ap span_of c.in-Sized.is ∙ standing.span_of-Sized _ _ _)

pub returns-in-Channel : goal.returns-in-Channel
returns-in-Channel c = sym (ap span_of c.in-Channel.is ∙ standing.span_of-Channel _ _ _)

pub returns-in-Listed : goal.returns-in-Listed
returns-in-Listed c = sym (ap span_of c.in-Listed.is ∙ standing.span_of-Listed _ _)

pub returns-in-Call : goal.returns-in-Call
returns-in-Call c = sym (ap span_of c.in-Call.is ∙ standing.span_of-Call _ _ _)

pub returns-in-Index : goal.returns-in-Index
returns-in-Index c = sym (ap span_of c.in-Index.is ∙ standing.span_of-Index _ _ _)

pub returns-in-Slice : goal.returns-in-Slice
returns-in-Slice c = sym (ap span_of c.in-Slice.is ∙ standing.span_of-Slice _ _ _ _)

pub returns-in-Dot : goal.returns-in-Dot
returns-in-Dot c = sym (ap span_of c.in-Dot.is ∙ standing.span_of-Dot _ _ _)

pub returns-in-Arrow : goal.returns-in-Arrow
returns-in-Arrow c = sym (ap span_of c.in-Arrow.is ∙ standing.span_of-Arrow _ _ _)

pub returns-in-Postfix : goal.returns-in-Postfix
returns-in-Postfix c = sym (ap span_of c.in-Postfix.is ∙ standing.span_of-Postfix _ _ _)

pub returns-in-Number : goal.returns-in-Number
returns-in-Number c = sym (ap span_of c.in-Number.is ∙ standing.span_of-Number _ _ _)

pub returns-in-Chars : goal.returns-in-Chars
returns-in-Chars c = sym (ap span_of c.in-Chars.is ∙ standing.span_of-Chars _ _)

pub returns-in-Name : goal.returns-in-Name
returns-in-Name c = sym (ap span_of c.in-Name.is ∙ standing.span_of-Name _ _)

pub returns-in-Nil : goal.returns-in-Nil
returns-in-Nil c = sym (ap span_of c.in-Nil.is ∙ standing.span_of-Nil _)

pub returns-in-Group : goal.returns-in-Group
returns-in-Group c = sym (ap span_of c.in-Group.is ∙ standing.span_of-Group _ _)
