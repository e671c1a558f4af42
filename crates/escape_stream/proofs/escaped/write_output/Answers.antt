use Rattle.std.proofs.Common.{◌++◌, List, ℕ, rules}
use Rattle.std.proofs.KnownBytes.{Appends-trans}
use Rattle.escape_simd.specs.Output.{inner, plain, quote_of}
use Rattle.escape_simd.specs.Modes.{escaping}
use Rattle.escape_stream.proofs.Transfer.{beginning-all}
use Rattle.escape_stream.proofs.Written.{ends-in_open, ends-in_text, ends-in_close, written-whole}
use Rattle.escape_stream.proofs.escaped.write_output.Goals as goal

pub returns-in_err-write_quote-clause-beginning : goal.returns-in_err-write_quote-clause-beginning
returns-in_err-write_quote-clause-beginning g c =
    let w = ends-in_open (escaping c.args.mode) c.args.text.now (g.W.Write.contents c.args.output.now) (g.W.Write.contents c.args.output.now) (g.W.Write.contents c.write_quote.new.output) c.in_err-write_quote.ensures.beginning in
    search (rules, w)

pub returns-in_err-write_pieces-clause-beginning :
    goal.returns-in_err-write_pieces-clause-beginning
returns-in_err-write_pieces-clause-beginning g c =
    let w = ends-in_text (escaping c.args.mode) c.args.text.now (g.W.Write.contents c.args.output.now) (g.W.Write.contents c.write_quote.new.output) (g.W.Write.contents c.write_pieces.new.output) c.in_ok-write_quote.ensures.whole c.in_err-write_pieces.ensures.beginning in
    search (rules, w)

pub returns-in_err-write_quote-2-clause-beginning :
    goal.returns-in_err-write_quote-2-clause-beginning
returns-in_err-write_quote-2-clause-beginning g c =
    let mode = escaping c.args.mode in let text : List ℕ = c.args.text.now in
    let before = Appends-trans (g.W.Write.contents c.args.output.now) (g.W.Write.contents c.write_quote.new.output) (g.W.Write.contents c.write_pieces.new.output) (quote_of mode) (inner mode text) c.in_ok-write_quote.ensures.whole c.in_ok-write_pieces.ensures.whole in
    let w = ends-in_close mode text (g.W.Write.contents c.args.output.now) (g.W.Write.contents c.write_pieces.new.output) (g.W.Write.contents c.write_quote-2.new.output) before c.in_err-write_quote-2.ensures.beginning in
    search (rules, w)

pub returns-clause-beginning : goal.returns-clause-beginning
returns-clause-beginning g c =
    let whole = written-whole (escaping c.args.mode) c.args.text.now (g.W.Write.contents c.args.output.now) (g.W.Write.contents c.write_quote.new.output) (g.W.Write.contents c.write_pieces.new.output) (g.W.Write.contents c.write_quote-2.new.output)
    c.in_ok-write_quote.ensures.whole c.in_ok-write_pieces.ensures.whole c.in_ok-write_quote-2.ensures.whole in
    let w = beginning-all (g.W.Write.contents c.args.output.now) (g.W.Write.contents c.write_quote-2.new.output) (g.W.Write.contents c.flush.new.output) (plain (escaping c.args.mode) c.args.text.now) whole c.flush.ensures.kept in
    search (rules, w)
