use Rattle.std.proofs.Common.{◌≡◌, rules, IsUtf8}
use Rattle.std.proofs.lemmas.Str.{IsUtf8-from_ascii}
use Rattle.escape_c.proofs.text.is_usual.Goals as goal
use Rattle.escape_c.proofs.text.is_usual.Goals.{then-kernel-eq0, else-kernel-eq0, then-text+then-is_known, then-text+else-is_known+then-text-le-SHORT, then-text+else-is_known+else-text-le-SHORT, else-text}

pub returns-then-is_ascii : goal.returns-then-is_ascii
returns-then-is_ascii c ok =
    let utf8 : IsUtf8 c.args.text.now = elim c.if-text.branch [
      | then-text+then-is_known w ↦ search (rules, w.if-is_known)
      | then-text+else-is_known+then-text-le-SHORT w ↦ IsUtf8-from_ascii c.args.text.now (search (rules, w.value-is, c.if-is_ascii))
      | then-text+else-is_known+else-text-le-SHORT w ↦ search (rules, w.value-is, c.if-is_ascii)
      | else-text w ↦ search (rules, w.value-is, c.if-is_ascii)
    ] in
    let default : c.args.kernel ≡ 0 = elim c.if-kernel-eq0.branch [
      | then-kernel-eq0 w ↦ search (rules, w.if-kernel-eq0)
      | else-kernel-eq0 w ↦ elim c.if-text.branch [
        | then-text+then-is_known v ↦ search (rules, w.value-is, v.if-text)
        | then-text+else-is_known+then-text-le-SHORT v ↦ search (rules, w.value-is, v.if-text)
        | then-text+else-is_known+else-text-le-SHORT v ↦ search (rules, w.value-is, v.if-text)
        | else-text v ↦ search (rules, v.value-is, c.if-is_ascii)
      ]
    ] in
    search (rules, utf8, default)
