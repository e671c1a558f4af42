-- The laws of markup. Under `#[tactic(auto, using(escape_simd::proofs::MarkupLaws::markup))]` a caller has the clause
-- that the markup of a page is that of its template.
use Rattle.escape_simd.proofs.Words.{Bor, ◌≡◌, ℕ, List, [], ◌∷◌, ◌++◌, flat_map, refl, append-nil, arith, nat_tests, html, replacement, plain, is_markup, filter-append, join_by}
unfoldable use Rattle.escape_simd.specs.Markup.{markup_of}

-- the markup of joined bytes is that of the first, and then that of the second
pub markup_of-append : (xs ys : List ℕ) → markup_of (xs ++ ys) ≡ markup_of xs ++ markup_of ys
unfolding markup_of
markup_of-append xs ys = filter-append is_markup xs ys

-- an escaped text has none
pub html_has_no_markup : (bytes : List ℕ) → markup_of (plain html bytes) ≡ []
unfolding markup_of replacement
html_has_no_markup [] = refl
html_has_no_markup (b ∷ bytes) = grind (arith, nat_tests, filter-append is_markup (replacement html b) (plain html bytes), html_has_no_markup bytes)

-- an escaped text adds none
pub markup-after_html : (before bytes : List ℕ) → markup_of (before ++ plain html bytes) ≡ markup_of before
markup-after_html before bytes = simp (append-nil, markup_of-append, html_has_no_markup)

-- the texts after the first of a list, each behind what stands between
rest_of_list : (between : List ℕ) (texts : List (Bor (List ℕ)))
    → markup_of (flat_map (λ text. between ++ plain html text.now) texts) ≡ markup_of (flat_map (λ _. between) texts)
rest_of_list between [] = refl
rest_of_list between (text ∷ texts) = simp (append-nil, markup_of-append, html_has_no_markup, rest_of_list between texts)

-- so a list of escaped texts adds the markup that stands between them
pub markup-after_joined_html : (before between : List ℕ) (texts : List (Bor (List ℕ)))
    → markup_of (before ++ join_by (λ text. plain html text.now) between texts) ≡ markup_of (before ++ join_by (λ _. []) between texts)
markup-after_joined_html before between [] = refl
markup-after_joined_html before between (text ∷ texts) = simp (append-nil, markup_of-append, html_has_no_markup, rest_of_list between texts)

pub ruleset markup = (markup_of-append, html_has_no_markup, markup-after_html, markup-after_joined_html)
