use Rattle.std.proofs.Common.{[], ◌++◌, List, ℕ, codes, refl, append-nil, ap}
use Rattle.escape_lanes.specs.Mode.{json}
use Rattle.escape_simd.specs.Output.{plain}
use Rattle.escape_text.proofs.WriterLemmas.{beginning-first, beginning-after, after_error, after_error-map}
use Rattle.escape_callers.specs.Written.{record_of}
use Rattle.escape_callers.proofs.filter.write_record.Goals as goal

pub returns-in_err-escape_to_writer-clause-beginning :
    goal.returns-in_err-escape_to_writer-clause-beginning
returns-in_err-escape_to_writer-clause-beginning g c =
    let line : List ℕ = c.args.line.now in
    after_error c.from_residual.result _ (beginning-first _ _ (record_of line) (plain json line) (codes "\n") refl c.in_err-escape_to_writer.ensures.beginning)

pub returns-clause-beginning : goal.returns-clause-beginning
returns-clause-beginning g c =
    let line : List ℕ = c.args.line.now in
    after_error-map c.write_whole.result _ _ (beginning-after _ _ _ (record_of line) (plain json line) (codes "\n") []
    (ap (λ xs. plain json line ++ xs) (append-nil (codes "\n"))) c.in_ok-escape_to_writer.ensures.exact) c.write_whole.ensures.beginning
