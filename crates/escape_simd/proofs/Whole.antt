-- A whole text: its bytes between quotes, or with none.
use Rattle.escape_simd.proofs.Words.{◌≡◌, ℕ, ◌+◌, ◌*◌, ◌/◌, ◌<◌, ◌≤◌, Bool, true, false, if◌then◌else◌, List, [], ◌++◌, length, take, drop, take-take, take-append-le, length-take-le, refl, sym, ap, ◌∙◌, subst, arith, append_assoc, length-append, le_refl, append-nil, drop_all, Mode, json, html, script, bytes_of, Target, inner, plain, bound, quote_of, quote_if, quote_count, escaped_count, run_count, Cost, HasRoom, Stretch, reach, state, IsWritten, IsFormatted, IsInnerWritten, IsQuoted, IsWrittenAt, IsEscapedAt, IsEscaping, IsOnlyOutput}
use Rattle.std.specs.Str.{IsUtf8, chars}
use Rattle.escape_simd.specs.Laws.{AgreesWithEach}
use Rattle.escape_simd.proofs.EscapingLemmas.{IsEscaping-output}
use Rattle.escape_simd.proofs.OutputLemmas.{IsOnlyOutput-between, length-plain}
use Rattle.escape_simd.proofs.RestSteps.{rest-is}
use Rattle.escape_simd.proofs.Stretches.{drop_further, room-on, room-six}
use Rattle.escape_simd.proofs.ReplacementLemmas.{inner-nil}
use Rattle.escape_simd.proofs.Texts.{escaped-empty, length-inner, runs-empty}

-- quotes around the escaped bytes
pub plain-parts : (mode : Mode) (text : List ℕ) → plain mode text ≡ (quote_of mode ++ inner mode text) ++ quote_of mode
plain-parts json text = refl
plain-parts html text = sym (append-nil (inner html text))
plain-parts script text = refl

-- both quotes together
pub two_quotes : (mode : Mode) → length (quote_of mode) + length (quote_of mode) ≡ quote_count mode
two_quotes json = refl
two_quotes html = refl
two_quotes script = refl

-- the bound has room for three of them
pub bound-quotes : (mode : Mode) (n : ℕ) → bound mode n ≡ 6 * n + 32 + 3 * length (quote_of mode)
bound-quotes mode n = grind arith

-- a quote is one byte or none
pub quote-short : (mode : Mode) → length (quote_of mode) ≤ 1
quote-short json = omega arith
quote-short html = omega arith
quote-short script = omega arith

-- all bytes of a text were passed: what stands for it is there
pub all-inner : {N : ℕ} {mode : Mode} {slack : ℕ} {text : List ℕ} {old new : Target N} {to end : ℕ} → Stretch mode slack text old new (0, to) (length text, end) → IsWrittenAt slack (inner mode text) (bytes_of old) (bytes_of new) to end
all-inner {N} {mode} {slack} {text} {old} {new} {to} {end} s =
    let none : inner mode (drop (length text) text) ≡ [] = ap (inner mode) (drop_all (length text) text (omega arith)) ∙ inner-nil mode in
    record { ends = grind (arith, s.limit, rest-is); written = grind (arith, s.bytes, append-nil); kept = s.kept }

-- one output, and then the next
pub written-onward : {slack slack2 : ℕ} {first second old mid new : List ℕ} {to i end : ℕ} (more : ℕ) → IsWrittenAt slack first old mid to i → IsWrittenAt slack2 second mid new i end → i + slack ≤ end + more → slack2 ≤ more → IsWrittenAt more (first ++ second) old new to end
written-onward {slack} {slack2} {first} {second} {old} {mid} {new} {to} {i} {end} more a b near few = record {
  ends = omega (arith, a.ends, b.ends, length-append first second);
  written = b.written ∙ ap (λ xs. xs ++ second) a.written ∙ append_assoc (take to old) first second;
  kept = drop_further new mid (end + slack2) (end + more) (omega (arith, few)) b.kept ∙ drop_further mid old (i + slack) (end + more) near a.kept;
}

-- an output, at the front of the bytes
pub whole_written : {lanes : ℕ} {mode : Mode} {text old new : List ℕ} {count : ℕ} → IsWrittenAt (reach true lanes) (plain mode text) old new 0 count → IsWritten lanes mode text old new count
whole_written {lanes} {mode} {text} {old} {new} {count} at =
    let most = length-inner mode text in let long = length-plain mode text in let further = drop_further new old (count + reach true lanes) in
    let kept = further (bound mode (length text)) (omega (arith, at.ends, most, long, two_quotes mode, bound-quotes mode (length text))) at.kept in
    let past = further (count + lanes) (omega arith) at.kept in grind arith

-- quotation marks or none stand around the escaped bytes
quoted-parts : (quoted : Bool) (mode : Mode) (text : List ℕ) → (if quoted then plain mode text else inner mode text) ≡ quote_if quoted mode ++ (inner mode text ++ quote_if quoted mode)
quoted-parts true mode text = plain-parts mode text ∙ append_assoc (quote_of mode) (inner mode text) (quote_of mode)
quoted-parts false mode text = sym (append-nil (inner mode text))

-- there is room for a text of which each byte may become six
pub whole-room : (mode : Mode) (slack : ℕ) (text : List ℕ) (to size : ℕ) → to + 6 * length text + slack ≤ size → HasRoom mode slack text 0 (length text) to size
whole-room mode slack text to size fits = room-six mode slack text 0 (length text) to size (omega arith) (omega arith) (omega (arith, fits))

-- what is written over bytes that a mark was written to is written over those before it
pub written-again : {N : ℕ} {slack : ℕ} {dst new : List ℕ} {old mid : Target N} {to opened end : ℕ} (quoted : Bool) (mode : Mode) (text : List ℕ) → bytes_of old ≡ dst → to ≤ length dst
    → IsQuoted (quote_if quoted mode) old mid to opened → IsEscapedAt slack mode quoted text (bytes_of mid) new to end → IsEscapedAt slack mode quoted text dst new to end
written-again {slack = slack} {dst} {new} {old} {mid} {to} {opened} {end} quoted mode text is inside mark all =
    let q = mark.quoted in let parts = ap length (quoted-parts quoted mode text) ∙ length-append (quote_if quoted mode) (inner mode text ++ quote_if quoted mode) in
    let front : take to (bytes_of mid) ≡ take to dst =
    sym (take-take to opened (bytes_of mid) (omega (arith, q.ends))) ∙ ap (take to) (q.written ∙ ap (λ xs. take to xs ++ quote_if quoted mode) is)
    ∙ take-append-le to (take to dst) (quote_if quoted mode) (omega (arith, length-take-le to dst inside)) ∙ take-take to to dst (le_refl to) in
    record {
      ends = all.ends;
      written = all.written ∙ ap (λ xs. xs ++ (if quoted then plain mode text else inner mode text)) front;
      kept = all.kept ∙ drop_further (bytes_of mid) dst (opened + 0) (end + slack) (omega (arith, all.ends, q.ends, parts)) (q.kept ∙ ap (drop (opened + 0)) is);
    }

-- all bytes of a text were passed: there is room for a quotation mark
pub close-inside : {N : ℕ} {mode : Mode} {slack more : ℕ} {text : List ℕ} {old mid : Target N} {to close : ℕ} → Stretch mode slack text old mid (0, to) (length text, close) → HasRoom mode more text 0 (length text) to (length (bytes_of old)) → 1 ≤ more → close < length (bytes_of mid)
close-inside s room some = let left = room-on s room in omega (arith, left.fits, some)

-- they were escaped between quotation marks, or with none
pub enclosed : {N : ℕ} {slack : ℕ} {dst : List ℕ} {old first second new : Target N} {to opened close end : ℕ} (quoted : Bool) (mode : Mode) (text : List ℕ) → bytes_of old ≡ dst
    → IsQuoted (quote_if quoted mode) old first to opened → Stretch mode slack text first second (0, opened) (length text, close) → IsQuoted (quote_if quoted mode) second new close end → IsEscapedAt slack mode quoted text dst (bytes_of new) to end
enclosed {slack = slack} quoted mode text is before between after =
    let back = written-onward slack (all-inner between) after.quoted (omega (arith, after.quoted.ends)) (omega arith) in
    rw (quoted-parts quoted mode text, ← is) (written-onward slack before.quoted back (omega (arith, back.ends)) (omega arith))

-- the bytes of a text were escaped to a target, between quotation marks
module _ {N : ℕ} {mode : Mode} {text : List ℕ} {old first second new : Target N} {opened close count : ℕ}
    (before : IsQuoted (quote_of mode) old first 0 opened) (between : Stretch mode (reach true N) text first second (0, opened) (length text, close)) (after : IsQuoted (quote_of mode) second new close count) where
  -- what this wrote, and its counts
  pub whole_formatted : {t0 t1 : ℕ} → Cost mode (length text / N + 1) 0 text (state first 0 opened t0) (state second (length text) close t1) → IsFormatted mode text old new count t0 t1
  whole_formatted c =
      let two = two_quotes mode in let s = between in
      let over : drop (length text) text ≡ [] = drop_all (length text) text (le_refl (length text)) in
      let none : escaped_count mode (drop (length text) text) ≡ 0 = ap (escaped_count mode) over ∙ escaped-empty mode in
      let runs : run_count mode (drop (length text) text) ≡ 0 = ap (run_count mode) over ∙ runs-empty mode false in
      record {
        same_slice = record {
          reference = after.same_slice.reference ∙ s.same_slice.reference ∙ before.same_slice.reference;
          len = after.same_slice.len ∙ s.same_slice.len ∙ before.same_slice.len;
        };
        written = whole_written (enclosed true mode text refl before between after);
        escaped = omega (arith, after.escaped, s.escaped, before.escaped, none);
        quotes = omega (arith, after.quotes, s.quotes, before.quotes, two);
        stored = omega (arith, after.stored, before.stored, c.stored);
        each_stored = omega (arith, after.stored, before.stored, c.covered);
        classified = omega (arith, c.classified, runs);
      }

-- what stands for a text with no quotation marks, at the front of the bytes
pub inner_written : {lanes : ℕ} {mode : Mode} {text value old new : List ℕ} {count : ℕ} → text ≡ value → IsWrittenAt (reach true lanes) (inner mode text) old new 0 count → IsUtf8 value
    → record { written : IsInnerWritten lanes mode value old new count; headline : IsOnlyOutput mode (quote_of mode ++ (take count new ++ quote_of mode)) (chars value) }
inner_written {lanes} {mode} {text} {value} {old} {new} {count} is given utf8 =
    let at = subst (λ xs. IsWrittenAt (reach true lanes) (inner mode xs) old new 0 count) is given in
    let most = length-inner mode value in let further = drop_further new old (count + reach true lanes) in
    let kept = further (6 * length value + 32) (omega (arith, at.ends, most)) at.kept in let past = further (count + lanes) (omega arith) at.kept in
    let w : IsInnerWritten lanes mode value old new count = grind arith in
    record { written = w; headline = IsOnlyOutput-between mode value (take count new) w.exact utf8 }

-- what stands for a text, at the front of the bytes, and what is said of it
pub text_written : {lanes : ℕ} {mode : Mode} {text value old new : List ℕ} {count : ℕ} → text ≡ value → IsWrittenAt (reach true lanes) (plain mode text) old new 0 count → IsUtf8 value
    → record { written : IsWritten lanes mode value old new count; output : IsEscaping mode value (take count new); agree : AgreesWithEach mode value count (take count new) }
text_written {lanes} {mode} {text} {value} {old} {new} {count} is given utf8 =
    let w : IsWritten lanes mode value old new count = whole_written (subst (λ xs. IsWrittenAt (reach true lanes) (plain mode xs) old new 0 count) is given) in
    record { written = w; output = IsEscaping-output mode value (take count new) w.exact utf8; agree = λ _ _ _ _ other. (other.ends ∙ sym w.ends, other.exact ∙ sym w.exact) }
