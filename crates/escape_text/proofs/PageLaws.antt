-- The laws of tags. Under `#[tactic(auto, using(escape_text::proofs::PageLaws::tags))]` a caller has the clause that the
-- tags of a page are those of its template.
use Rattle.std.proofs.Common.{◌≡◌, ◌≢◌, ℕ, ◌+◌, ◌<◌, false, List, [], ◌∷◌, ◌++◌, All, IsUtf8, Result, Ok, Err, OnOk, flat_map, length, take, get_or, refl, sym, ap, ◌∙◌, append_assoc, arith}
use Rattle.std.specs.List.{join_by}
use Rattle.std.proofs.lemmas.Bool.{cond-false}
use Rattle.std.proofs.lemmas.List.Elements.{All-tail, filter-append}
use Rattle.std.proofs.lemmas.Str.{IsUtf8-nil, IsUtf8-append}
use Rattle.escape_lanes.specs.Mode.{html, script}
use Rattle.escape_simd.specs.Html.{is_markup}
use Rattle.escape_simd.specs.Output.{plain}
use Rattle.escape_simd.proofs.PlainLaws.{html_is_markup_free, script_is_safe}
use Rattle.escape_simd.proofs.Words.{nat_tests}
use Rattle.escape_text.proofs.Many.{appended_more}
use Rattle.escape_text.specs.Page.{is_tag, bytes_of_part, page_of, template_of}
unfoldable use Rattle.escape_text.specs.Page.{tags_of}
use Rattle.escape_text.specs.declared.page.Part.{Part}
use Rattle.escape_text.specs.declared.page.Part.TheVariants.{Markup, Text, Script}

-- the tags of joined bytes are those of the first, and then those of the second
pub tags_of-append : (xs ys : List ℕ) → tags_of (xs ++ ys) ≡ tags_of xs ++ tags_of ys
unfolding tags_of
tags_of-append xs ys = filter-append is_tag xs ys

no_tags : (bytes : List ℕ) → All (λ b. is_tag b ≡ false) bytes → tags_of bytes ≡ []
unfolding tags_of
no_tags [] none = refl
no_tags (b ∷ bytes) none = cond-false (is_tag b) _ _ (none 0 b (omega arith)) ∙ no_tags bytes (All-tail (λ x. is_tag x ≡ false) b bytes none)

no_markup : (b : ℕ) → is_markup b ≡ false → is_tag b ≡ false
no_markup b none = grind (arith, nat_tests)

no_brackets : (b : ℕ) → b ≢ 0x3c → b ≢ 0x3e → is_tag b ≡ false
no_brackets b less greater = grind (arith, nat_tests)

-- an escaped text has none
pub html_has_no_tags : (text : List ℕ) → tags_of (plain html text) ≡ []
html_has_no_tags text = no_tags (plain html text) (λ i d inside. no_markup (get_or (plain html text) i d) (html_is_markup_free text i d inside))

-- a script literal has none
pub script_has_no_tags : (text : List ℕ) → tags_of (plain script text) ≡ []
script_has_no_tags text =
    no_tags (plain script text) (λ i d inside. let safe = (script_is_safe text).no_markup i d inside in no_brackets (get_or (plain script text) i d) safe.0 safe.1)

-- so the tags of a page are those of its markup
pub page_tags : (parts : List Part) → tags_of (page_of parts) ≡ tags_of (template_of parts)
page_tags [] = refl
page_tags (Markup markup ∷ parts) =
    tags_of-append markup.now (page_of parts) ∙ ap (λ xs. tags_of markup.now ++ xs) (page_tags parts) ∙ sym (tags_of-append markup.now (template_of parts))
page_tags (Text text ∷ parts) =
    tags_of-append (plain html text.now) (page_of parts) ∙ ap (λ xs. xs ++ tags_of (page_of parts)) (html_has_no_tags text.now) ∙ page_tags parts
page_tags (Script text ∷ parts) =
    tags_of-append (plain script text.now) (page_of parts) ∙ ap (λ xs. xs ++ tags_of (page_of parts)) (script_has_no_tags text.now) ∙ page_tags parts

-- the tags of what is appended, and then of what is appended after it
pub tags_then : (old a now b new : List ℕ) → tags_of now ≡ tags_of (old ++ a) → tags_of new ≡ tags_of (now ++ b) → tags_of new ≡ tags_of (old ++ (a ++ b))
tags_then old a now b new first second =
    second ∙ tags_of-append now b ∙ ap (λ tags. tags ++ tags_of b) first ∙ sym (tags_of-append (old ++ a) b) ∙ ap tags_of (append_assoc old a b)

-- one more of the pages that a loop appends, each with the same markup
pub tags_more : {X : Type 0} (markup : List ℕ) (xs : List X) (i : ℕ) → i < length xs → (old now new : List ℕ)
    → tags_of now ≡ tags_of (old ++ flat_map (λ _. markup) (take i xs)) → tags_of new ≡ tags_of (now ++ markup) → tags_of new ≡ tags_of (old ++ flat_map (λ _. markup) (take (i + 1) xs))
tags_more markup [] i inside old now new so_far more = absurd (omega arith)
tags_more markup (x ∷ xs) i inside old now new so_far more =
    let some = old ++ flat_map (λ _. markup) (take i (x ∷ xs)) in
    more ∙ tags_of-append now markup ∙ ap (λ tags. tags ++ tags_of markup) so_far ∙ sym (tags_of-append some markup)
    ∙ ap tags_of (appended_more (λ _. markup) (x ∷ xs) i x inside old some (some ++ markup) refl refl)

pub ruleset tags = (tags_of-append, html_has_no_tags, script_has_no_tags, page_tags, tags_more)

-- The clauses of `page_into`.

joined_by_nothing : (parts : List Part) → join_by bytes_of_part [] parts ≡ page_of parts
joined_by_nothing [] = refl
joined_by_nothing (part ∷ parts) = refl

pub tags-after : {E : Type 0} (result : Result (Unit {0}) E) (old new : List ℕ) (parts : List Part) → OnOk result (new ≡ old ++ join_by bytes_of_part [] parts)
    → OnOk result (tags_of new ≡ tags_of (old ++ template_of parts))
tags-after (Ok done) old new parts exact =
    ap tags_of (exact ∙ ap (λ bytes. old ++ bytes) (joined_by_nothing parts)) ∙ tags_of-append old (page_of parts)
    ∙ ap (λ bytes. tags_of old ++ bytes) (page_tags parts) ∙ sym (tags_of-append old (template_of parts))
tags-after (Err why) old new parts exact = tt

page_is_text : (parts : List Part) → All (λ part. IsUtf8 (bytes_of_part part)) parts → IsUtf8 (page_of parts)
page_is_text [] texts = IsUtf8-nil
page_is_text (part ∷ parts) texts =
    IsUtf8-append (bytes_of_part part) (page_of parts) (texts 0 part (omega arith)) (page_is_text parts (All-tail (λ x. IsUtf8 (bytes_of_part x)) part parts texts))

pub text-after : {E : Type 0} (result : Result (Unit {0}) E) (parts : List Part) → OnOk result (All (λ part. IsUtf8 (bytes_of_part part)) parts) → OnOk result (IsUtf8 (page_of parts))
text-after (Ok done) parts texts = page_is_text parts texts
text-after (Err why) parts texts = tt
