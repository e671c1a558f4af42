use Rattle.std.proofs.Common.{◌≡◌, ◌∙◌, ℕ, List, length, drop, rules}
use Rattle.std.proofs.lemmas.List.{take_at}
use Rattle.escape_simd.specs.Output.{plain}
use Rattle.escape_simd.proofs.EscapingLemmas.{IsEscaping-output}
use Rattle.escape_simd.specs.Modes.{mode_numbered}
use Rattle.escape_c.specs.declared.call.Refusal.TheVariants.{TooShort}
use Rattle.escape_c.specs.Call.{HasLength}
use Rattle.escape_c.proofs.ExactLemmas.{RefusesExact-unmeasured}
use Rattle.escape_c.proofs.exact.escape_exact.Goals as goal

pub returns-in-Ok-clause-output : goal.returns-in-Ok-clause-output
returns-in-Ok-clause-output c ok =
    let mode = mode_numbered c.args.mode in
    let output : List ℕ = c.write.new.dst in
    let count : length output ≡ c.status.new.count = search rules in
    let exact : output ≡ plain mode c.args.text.now = search (rules, c.write.ensures) in
    IsEscaping-output mode c.args.text.now _ (take_at output (drop c.in-Ok.len c.args.buffer.now) c.status.new.count count ∙ exact) (search rules)

pub returns-in-Err-clause-refused : goal.returns-in-Err-clause-refused
returns-in-Err-clause-refused c why =
    let none : ¬ (HasLength c.args.mode c.args.text.now) = search rules in
    let same = RefusesExact-unmeasured c.args.mode c.args.text.now (length c.args.buffer.now) none why in
    search (rules, same)

pub returns-in-Err-clause-needed : goal.returns-in-Err-clause-needed
returns-in-Err-clause-needed c short =
    let told = (c.status-in-Err.ensures.refused TooShort).0 short in
    absurd ((c.measured_in.ensures.err TooShort).0 (search (rules, told)))
