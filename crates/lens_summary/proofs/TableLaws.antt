-- The text of a table, one cell more.
use Rattle.std.proofs.Common.{◌≡◌, ℕ, ◌+◌, ◌-◌, ◌<◌, ◌≤◌, ◌==◌, List, [], ◌∷◌, ◌++◌, length, map, drop, get_or, codes, refl, sym, ap, ◌∙◌, arith, length-drop, append_assoc}
use Rattle.std.proofs.Math.Seq.{drop-length}
use Rattle.std.proofs.lemmas.List.{length-map}
use Rattle.std.proofs.lemmas.Bool.Decides.{nat_tests}
use Rattle.lens_summary.specs.declared.cell.Cell.{Cell}
use Rattle.lens_summary.specs.Cells.{cell_text}
use Rattle.lens_summary.specs.Tables.{Texts, width, widths_from, filled, row_text}
use Rattle.lens_summary.proofs.StepLaws.{drop-more}

row-cons : (widths : List ℕ) (column : ℕ) (cell : List ℕ) (more : Texts)
    → row_text widths column (cell ∷ more) ≡ filled (get_or widths column 0) (length more == 0) cell ++ row_text widths (column + 1) more
unfolding row_text
row-cons widths column cell more = refl

row-none : (widths : List ℕ) (column : ℕ) → row_text widths column [] ≡ codes "\n"
unfolding row_text
row-none widths column = refl

last-cell : (a b c : ℕ) → a ≡ b - c → c ≤ b → (a == 0) ≡ (c == b)
last-cell a b c is within = grind (arith, nat_tests)

-- the cells from one on are that one and those behind it
row-more : (widths : List ℕ) (column : ℕ) (cells : List Cell) (d : Cell) → column < length cells
    → row_text widths column (map cell_text (drop column cells))
    ≡ filled (get_or widths column 0) (column + 1 == length cells) (cell_text (get_or cells column d)) ++ row_text widths (column + 1) (map cell_text (drop (column + 1) cells))
row-more widths column cells d within =
    let behind = map cell_text (drop (column + 1) cells) in
    let long : length behind ≡ length cells - (column + 1) = length-map (drop (column + 1) cells) cell_text ∙ length-drop (column + 1) cells in
    ap (λ cs. row_text widths column (map cell_text cs)) (drop-more cells column d within)
    ∙ row-cons widths column (cell_text (get_or cells column d)) behind
    ∙ ap (λ b. filled (get_or widths column 0) b (cell_text (get_or cells column d)) ++ row_text widths (column + 1) behind)
    (last-cell (length behind) (length cells) (column + 1) long (omega (arith, within)))

-- a cell is added
pub row-step : (widths : List ℕ) (column wide : ℕ) (cells : List Cell) (d : Cell) (old new whole : List ℕ) → column < length cells → wide ≡ get_or widths column 0
    → new ≡ old ++ filled wide (column + 1 == length cells) (cell_text (get_or cells column d))
    → old ++ row_text widths column (map cell_text (drop column cells)) ≡ whole
    → new ++ row_text widths (column + 1) (map cell_text (drop (column + 1) cells)) ≡ whole
row-step widths column wide cells d old new whole within at is so_far =
    let behind = row_text widths (column + 1) (map cell_text (drop (column + 1) cells)) in
    let b = column + 1 == length cells in
    let cell = cell_text (get_or cells column d) in
    ap (λ t. t ++ behind) (is ∙ ap (λ n. old ++ filled n b cell) at)
    ∙ append_assoc old (filled (get_or widths column 0) b cell) behind
    ∙ ap (λ t. old ++ t) (sym (row-more widths column cells d within))
    ∙ so_far

-- all cells were added
pub row-end : (widths : List ℕ) (column : ℕ) (cells : List Cell) (old new whole : List ℕ) → column ≡ length cells → new ≡ old ++ codes "\n"
    → old ++ row_text widths column (map cell_text (drop column cells)) ≡ whole → new ≡ whole
row-end widths column cells old new whole all is so_far =
    is
    ∙ ap (λ t. old ++ t) (sym (ap (λ cs. row_text widths column (map cell_text cs)) (ap (λ n. drop n cells) all ∙ drop-length cells) ∙ row-none widths column))
    ∙ so_far

-- a width is added
pub widths-step : (column wide : ℕ) (heading : List Cell) (d : Cell) (rows : List Texts) (old new whole : List ℕ) → column < length heading → wide ≡ width column rows
    → new ≡ old ++ wide ∷ [] → old ++ widths_from column (map cell_text (drop column heading)) rows ≡ whole
    → new ++ widths_from (column + 1) (map cell_text (drop (column + 1) heading)) rows ≡ whole
widths-step column wide heading d rows old new whole within at is so_far =
    let behind = widths_from (column + 1) (map cell_text (drop (column + 1) heading)) rows in
    ap (λ t. t ++ behind) (is ∙ ap (λ n. old ++ n ∷ []) at)
    ∙ append_assoc old (width column rows ∷ []) behind
    ∙ ap (λ t. old ++ t) (sym (ap (λ cs. widths_from column (map cell_text cs) rows) (drop-more heading column d within)))
    ∙ so_far
