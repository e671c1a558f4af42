use Rattle.std.proofs.Common.{◌∙◌, true≢false, sym}
use Rattle.escape_lanes.specs.Mode.{json, script}
use Rattle.escape_lanes.proofs.ShortLemmas.{long_json, long_script, told-json, told-script, json-lanes, script-lanes, long-bits, json-left, shortened-full, text-bytes}
use Rattle.escape_lanes.proofs.simd.short.long_lanes.Goals as goal

pub returns-then-not-is_script : goal.returns-then-not-is_script
returns-then-not-is_script g c =
    let v = c.shorten-bytes.result in
    let bytes = text-bytes c.args.text.now c.args.at c.requires.inside (λ i. (c.type_inv.text i).fits) in
    let mode = json-left c.requires.mode (λ e. true≢false (sym (c.is_script.ensures.1 e) ∙ c.if-not-is_script.true)) in
    rw mode (long-bits json long_json told-json _ v bytes c.shorten-bytes.ensures _ (rw (shortened-full _ v bytes c.shorten-bytes.ensures) at (json-lanes v)))

pub returns : goal.returns
returns g c =
    let v = c.shorten-bytes.result in
    let bytes = text-bytes c.args.text.now c.args.at c.requires.inside (λ i. (c.type_inv.text i).fits) in
    let mode = c.is_script.ensures.0 c.if-not-is_script.false in
    rw mode (long-bits script long_script told-script _ v bytes c.shorten-bytes.ensures _ (rw (shortened-full _ v bytes c.shorten-bytes.ensures) at (script-lanes v)))
