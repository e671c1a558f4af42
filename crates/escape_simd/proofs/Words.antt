-- The words of these proofs, from where each is defined.
pub use Rattle.std.proofs.Common.{Bool, Bor, Err, IsUtf8, List, None, Option, Some, [], ap, append-nil, append_assoc, ap₂, arith, chars, codes, cond, drop, encode_utf8, encode_utf8_all, false, flat_map, get_or, if◌then◌else◌, inl, inr, le_antisymm, le_refl, length, length-append, length-drop, length-take-le, map, min, nat_eq, not, refl, replicate, rules, slice_index, slice_index_or, slice_range, subst, suc, sym, take, true, true≢false, vec_capacity, vec_len, zero, ℕ, ◌%◌, ◌&&◌, ◌*◌, ◌++◌, ◌+◌, ◌-◌, ◌/◌, ◌<◌, ◌==◌, ◌^◌, ◌||◌, ◌∙◌, ◌∷◌, ◌≡◌, ◌≢◌, ◌≤◌, ◌⊎◌}
pub use Rattle.std.proofs.Math.Seq.{drop-append_seam, drop-cons, paste, take-add, take-append-add, take-append_seam}
pub use Rattle.std.proofs.Math.Utf8.{scalar}
pub use Rattle.std.proofs.lemmas.Bool.{agree_below, agree_below_at, and_parts, cases_Bool, cases_lt, cond_both, ne_eqb, true≢false}
pub use Rattle.std.proofs.lemmas.Bool.Decides.{leb_tells, nat_tests}
pub use Rattle.std.proofs.lemmas.Grind.{flat_map-append}
pub use Rattle.std.proofs.lemmas.List.{append-nil, append_cancel_right, drop-append-le, drop-drop, drop-map, drop-take, drop_all, drop_at, ext_get_or, get_or-append_right, get_or-drop, get_or-map, get_or-replicate, get_or-take, get_or_append_left, get_or_default, get_or_past, length-drop, length-map, length-replicate, length-take, length-take-le, map-append, map-id, replicate-append-replicate, take-append-drop, take-append-le, take-map, take-take, take_all, take_at}
pub use Rattle.std.proofs.lemmas.List.Elements.{All-append, All-drop, All-from_recursion, All-nil, All-take, All-weaker, filter-append, recursion_from_All}
pub use Rattle.std.proofs.lemmas.List.Sums.{count_by-le-length, get_or-le-sum_by, prefix_len-drop_no, prefix_len-drop_yes, sum_by-append, sum_by-cons, sum_by-le, sum_by-take-drop}
pub use Rattle.std.proofs.lemmas.Nat.{and_le_l, and_le_r, le-div, shr_below}
pub use Rattle.std.proofs.lemmas.Simd.{Each1-from_get_or, SwzOk, SwzOk-from_Each1, SwzOk-from_below, get_or-swz_l, get_or-swz_l_below, get_or-zip2, length-swz_l, length-zip2, map-map, mask_l-lt, mask_l-mod, pick_l-range_with_len, splat_is_map, swz_l, tops_compared, zip2_of_maps, zip2_splat}
pub use Rattle.std.proofs.lemmas.Str.{IsCharBoundary-past_char, IsUtf8-append, IsUtf8-drop, IsUtf8-encode, IsUtf8-from_ascii, IsUtf8-nil, IsUtf8-take, char_from_byte, digit_value-digit_char, encode_ascii, encode_same, encodes-chars, len_utf8_ascii, len_utf8_bounds, length-encode, scalars-chars}
unfoldable pub use Rattle.std.specs.Char.{encode_utf8}
pub use Rattle.std.specs.Char.{IsScalar, digit_char, digit_value, len_utf8}
pub use Rattle.std.specs.List.{All, AllByRecursion, AllZip, concat, count_by, join_by, range_with_len}
pub use Rattle.std.specs.Simd.Lanes.{mask_l, pick_l, sel_l, top, zip2}
pub use Rattle.std.specs.Str.{IsCharBoundary, all_scalars}
unfoldable pub use Rattle.escape_lanes.specs.Bits.{bits_of, first_set, gaps, none_set}
pub use Rattle.escape_lanes.specs.Bits.{clear_first, clear_last, length-bits_of}
pub use Rattle.escape_lanes.specs.Entry.{entry_bytes, entry_count, padded}
pub use Rattle.escape_lanes.specs.Masks.{IsMaskOf, MaskOf, is_clear, lanes_of_mask, mask_from, told_by, used_up, whole_mask}
pub use Rattle.escape_lanes.specs.Mode.{Mode, html, json, mode_of, script}
unfoldable pub use Rattle.escape_lanes.specs.Replacement.{replacement}
pub use Rattle.escape_lanes.specs.Replacement.{control_escape, needs_escape}
unfoldable pub use Rattle.escape_lanes.specs.Short.{shortened}
pub use Rattle.escape_lanes.specs.Short.{is_long}
unfoldable pub use Rattle.escape_lanes.specs.Spread.{flagged_blocks, put_apart}
pub use Rattle.escape_lanes.specs.Spread.{IsBlock, flag_count}
pub use Rattle.escape_lanes.specs.Written.{IsSameSlice, bytes_of, escaped_of, quotes_of, stored_of}
pub use Rattle.escape_lanes.specs.declared.simd.target.Target.{Target}
pub use Rattle.escape_simd.specs.Blocks.{AreShort, HasBlocks}
pub use Rattle.escape_simd.specs.Escaping.{IsEscaping, IsHarmless, IsOneLine}
pub use Rattle.escape_simd.specs.Formatted.{IsFormatted, IsInnerWritten, IsQuoted, IsWritten, IsWrittenAt}
pub use Rattle.escape_simd.specs.Headline.{IsOnlyOutput}
unfoldable pub use Rattle.escape_simd.specs.Html.{entity_of}
pub use Rattle.escape_simd.specs.Html.{AmpersandsBeginEntities, HtmlReads, IsHtmlItem, IsMarkupFree, IsOnlyHtml, entity, is_markup}
unfoldable pub use Rattle.escape_simd.specs.Json.{short_escape}
pub use Rattle.escape_simd.specs.Json.{HasLowerDigits, IsHexDigit, IsHexForm, IsJsonItem, IsLiteral, IsLower, IsLowerItem, IsNotUpper, IsOnlyJson, JsonDenotes, digits, hex, pair, raw, short}
pub use Rattle.escape_simd.specs.Laws.{HasOutputLength, IsOfOneText, JoinsTexts, appended}
pub use Rattle.escape_simd.specs.Lengths.{IsPartLength}
pub use Rattle.escape_simd.specs.Modes.{mode_numbered}
unfoldable pub use Rattle.escape_simd.specs.Output.{begins_separator, script_inner_after}
pub use Rattle.escape_simd.specs.Output.{bound, first_replacement, inner, source_len, plain, quote_count, quote_of, quoted}
pub use Rattle.escape_simd.specs.Parts.{IsEscapedAt, IsFront, quote_if}
unfoldable pub use Rattle.escape_simd.specs.Runs.{runs_after, script_escapes_after, script_runs_after}
pub use Rattle.escape_simd.specs.Runs.{escaped_count, run_count, run_count_after}
pub use Rattle.escape_simd.specs.Script.{HasNoRawMark, IsOnlyScript, IsSafeInScript, IsScriptItem, is_script_marked}
pub use Rattle.escape_simd.specs.Spelling.{IsTextOf, Spells}
unfoldable pub use Rattle.escape_simd.specs.Stretch.{rest_length}
pub use Rattle.escape_simd.specs.Stretch.{AreTailMasks, Cost, State, EscapedRun, Advanced, HasRunRoom, HasRoom, IsByteWise, IsFlaggedAt, IsRunAt, IsRunEnd, IsStored, IsVectorAt, Reached, Stretch, reach, run_end, run_reach, state}
