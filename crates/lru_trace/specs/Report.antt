-- What the program `trace` writes for a trace, in each form.
use Rattle.std.specs.Prelude.{ℕ, ◌-◌, ◌/◌, ◌%◌, ◌==◌, if◌then◌else◌, List, [], ◌∷◌, ◌++◌, length, map}
use Rattle.std.specs.Prelude.{flat_map, replicate, decimal, codes, Bool, false, Option, Some, None}
use Rattle.std.specs.Option.{option_map}
use Rattle.lru_trace.specs.declared.options.Options.{Options}
use Rattle.lru_trace.specs.declared.options.Form.{Form}
use Rattle.lru_trace.specs.declared.options.Form.TheVariants as forms
use Rattle.lru_trace.specs.declared.options.Measure.{Measure}
use Rattle.lru_trace.specs.declared.options.Measure.TheVariants.{Places, PlacesWithDeletes, Bytes}
use Rattle.lru_trace.specs.declared.lines.Others.{Others}
use Rattle.lru_trace.specs.declared.rows.BestMisses.{BestMisses}
use Rattle.lru_trace.specs.declared.rows.Counts.{Counts}
use Rattle.lru_trace.specs.declared.rows.Row.{Row}
use Rattle.lru_trace.specs.References.{warm_in, counted_in, others_in, bits_of, wants_best, measure_of}
use Rattle.lru_trace.specs.Rows.{references_of, keys_among, expected_of, row_of, axis_in, powers_in, points}
use Rattle.lru_trace.specs.Sizes.{sizes_from}
use Rattle.lru_trace.specs.Svg.{missed_part, svg_text}

-- the fraction n / 10000 as decimal text, such as `0.8113`
abbrev pub ratio_text : ℕ → List ℕ
ratio_text n = decimal (n / 10000) ++ (codes "." ++ (decimal (n / 1000 % 10) ++ (decimal (n / 100 % 10)
    ++ (decimal (n / 10 % 10) ++ decimal (n % 10)))))

abbrev pub best_text : Option BestMisses → List ℕ
best_text None = []
best_text (Some best) = codes " min " ++ (decimal best.min ++ (codes " bypass " ++ decimal best.bypass))

abbrev pub measure_text : Measure → List ℕ
measure_text Places = codes "places "
measure_text PlacesWithDeletes = codes "places "
measure_text Bytes = codes "bytes "

abbrev pub size_text : Measure → Row → List ℕ
size_text measure row = measure_text measure ++ (decimal row.size ++ (codes " hits " ++ (decimal (row.expected - row.misses)
    ++ (codes " misses " ++ (decimal row.misses ++ (codes " ratio "
    ++ (ratio_text (missed_part row.misses row.expected 10000) ++ (best_text row.best ++ codes "\n"))))))))

abbrev pub bar_text : Row → List ℕ
bar_text row = replicate (12 - length (decimal row.size)) 32 ++ (decimal row.size ++ (codes " |"
    ++ (replicate (missed_part row.misses row.expected 50) 35 ++ codes "\n")))

abbrev pub skipped_text : Option ℕ → List ℕ
skipped_text None = []
skipped_text (Some n) = codes " skipped " ++ decimal n

abbrev pub head_text : Counts → List ℕ
head_text counts = codes "references " ++ (decimal counts.references ++ (codes " keys " ++ (decimal counts.keys
    ++ (codes " malformed " ++ (decimal counts.malformed ++ (skipped_text counts.skipped ++ codes "\n"))))))

abbrev pub text_of : Counts → List Row → List Row → List ℕ
text_of counts named bars = head_text counts ++ (flat_map (size_text counts.measure) named ++ flat_map bar_text bars)

abbrev pub csv_best : Option BestMisses → List ℕ
csv_best None = []
csv_best (Some best) = codes "," ++ (decimal best.min ++ (codes "," ++ decimal best.bypass))

abbrev pub csv_line : Row → List ℕ
csv_line row = decimal row.size ++ (codes "," ++ (decimal (row.expected - row.misses) ++ (codes ","
    ++ (decimal row.misses ++ (codes "," ++ (ratio_text (missed_part row.misses row.expected 10000)
    ++ (csv_best row.best ++ codes "\n")))))))

abbrev pub csv_head : Bool → List ℕ
csv_head best = if best then codes "size,hits,misses,ratio,min,bypass\n" else codes "size,hits,misses,ratio\n"

abbrev pub csv_of : Bool → List Row → List ℕ
csv_of best rows = csv_head best ++ flat_map csv_line rows

abbrev pub counts_of : Measure → ℕ → List (List ℕ × ℕ) → List (List ℕ × ℕ) → Others → Counts
counts_of measure bits warm trace others = record {
  measure = measure;
  references = references_of measure trace;
  keys = keys_among measure warm trace;
  malformed = others.malformed;
  skipped = if bits == 0 then None else Some others.skipped;
}

module _ (options : Options) (warm trace : List (List ℕ × ℕ)) (sizes : List ℕ) (others : Others) where
  abbrev measure : Measure
  measure = measure_of options.policies

  abbrev bits : ℕ
  bits = bits_of options

  abbrev best : Bool
  best = wants_best options.policies

  abbrev pub counts : Counts
  counts = counts_of measure bits warm trace others

  abbrev pub rows : Bool → List ℕ → List Row
  rows best them = map (row_of measure warm trace bits (expected_of bits counts) best) them

  abbrev pub point_rows : List Row
  point_rows = rows best (points sizes (powers_in measure warm trace bits))

  abbrev pub written_as : Form → List ℕ
  written_as forms.Text = text_of counts (rows best sizes) (rows false (powers_in measure warm trace bits))
  written_as forms.Csv = csv_of best point_rows
  written_as forms.Svg = svg_text counts best (axis_in measure warm trace bits) point_rows

  abbrev pub written : List ℕ
  written = written_as options.form

-- What the program writes for these lines, or `None` if the first line names no sizes.
abbrev pub output : Options → List (List ℕ) → Option (List ℕ)
output options [] = None
output options (first ∷ lines) =
    option_map (λ sizes. written options (warm_in options lines) (counted_in options lines) sizes (others_in options lines))
    (sizes_from [] None first)
