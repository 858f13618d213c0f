-- The picture of the curves. Coordinates are tenths of a pixel. From the left, the size 1 is at 900, and the size
-- 2 ^ octaves is at 7300. The point of a size is at 3900 from the top if no reference misses, and at 700 if all
-- references miss.
use Rattle.std.specs.Prelude.{ℕ, zero, suc, ◌+◌, ◌-◌, ◌*◌, ◌/◌, ◌%◌, ◌^◌, max, nat_le, ◌==◌, if◌then◌else◌}
use Rattle.std.specs.Prelude.{List, [], ◌++◌, length, flat_map, decimal, codes, Bool, Option, Some, None}
use Rattle.lru_trace.specs.declared.svg.TheConstants.{START, PLACES, BYTES, LRU, MIN, BYPASS}
use Rattle.lru_trace.specs.declared.rows.BestMisses.{BestMisses}
use Rattle.lru_trace.specs.declared.rows.Counts.{Counts}
use Rattle.lru_trace.specs.declared.rows.Row.{Row}
use Rattle.lru_trace.specs.declared.options.Measure.{Measure}
use Rattle.lru_trace.specs.declared.options.Measure.TheVariants.{Places, PlacesWithDeletes, Bytes}
use Rattle.lru_trace.specs.declared.svg.Policy.{Policy}
use Rattle.lru_trace.specs.declared.svg.Policy.TheVariants as policies

-- the share of the references that missed, multiplied by `scale` and rounded down
abbrev pub part : ℕ → ℕ → ℕ → ℕ
part missed references scale = if references == 0 then 0 else missed * scale / references

-- The share of the expected references that miss, multiplied by `scale` and rounded down. If more references miss than
-- are expected, the result is `scale`.
abbrev pub missed_part : ℕ → ℕ → ℕ → ℕ
missed_part missed expected scale = part missed (max missed expected) scale

-- the greatest level, at most `most`, with 2 ^ level ≤ n, or 0 if there is no such level
unfoldable pub level_of : ℕ → ℕ → ℕ
level_of zero n = 0
level_of (suc most) n = if nat_le (2 ^ suc most) n then suc most else level_of most n

-- 1000 times the logarithm of n to the base 2, with an error of at most 9. The error is 0 at each power of two. Between
-- two powers, the function is a parabola.
abbrev pub log_of : ℕ → ℕ
log_of n =
    let level : ℕ = level_of 63 n in
    let behind : ℕ = part (n - 2 ^ level) (2 ^ level) 1000 in
    1000 * level + (behind + behind * (1000 - behind) * 353 / 1000000)

abbrev pub x_of : ℕ → ℕ → ℕ
x_of octaves size = 900 + log_of size * 6400 / (1000 * octaves)

abbrev pub of_best : (BestMisses → ℕ) → Option BestMisses → ℕ
of_best f None = 0
of_best f (Some best) = f best

abbrev pub missed_by : Policy → Row → ℕ
missed_by policies.Lru row = row.misses
missed_by policies.Min row = of_best (λ best. best.min) row.best
missed_by policies.Bypass row = of_best (λ best. best.bypass) row.best

abbrev pub y_of : Policy → Row → ℕ
y_of policy row = 3900 - missed_part (missed_by policy row) row.expected 3200

abbrev pub point_text : ℕ → Policy → Row → List ℕ
point_text octaves policy row = if row.size == 0 then [] else if nat_le (x_of octaves row.size) 7300
    then decimal (x_of octaves row.size) ++ (codes " " ++ (decimal (y_of policy row) ++ codes " ")) else []

-- the label of the horizontal axis
abbrev pub label : Measure → List ℕ
label Places = PLACES.now
label PlacesWithDeletes = PLACES.now
label Bytes = BYTES.now

-- the text of a policy's entry in the legend, followed by the text that begins the policy's curve
abbrev pub legend : Policy → List ℕ
legend policies.Lru = LRU.now
legend policies.Min = MIN.now
legend policies.Bypass = BYPASS.now

abbrev pub curve_text : ℕ → List Row → Policy → List ℕ
curve_text octaves rows policy = legend policy ++ (flat_map (point_text octaves policy) rows ++ codes "h0'/>\n")

abbrev pub grid_text : ℕ → ℕ → List ℕ
grid_text x size = codes "<path class='grid' d='M" ++ (decimal x ++ (codes " 700v3200'/><text class='tick' x='"
    ++ (decimal x ++ (codes "' y='4080'>" ++ (decimal size ++ codes "</text>\n")))))

-- The tick of a power of two on the axis. If the axis has more than nine powers, only some powers have a tick.
abbrev pub tick_text : ℕ → ℕ → List ℕ
tick_text octaves power =
    if level_of 63 power % (1 + octaves / 9) == 0 then grid_text (x_of octaves power) power else []

abbrev pub skipped_part : Option ℕ → List ℕ
skipped_part None = []
skipped_part (Some n) = codes ", " ++ (decimal n ++ codes " skipped")

abbrev pub title_text : Counts → List ℕ
title_text counts = codes "<text x='900' y='290'>" ++ (decimal counts.references ++ (codes " references to "
    ++ (decimal counts.keys ++ (codes " keys, " ++ (decimal counts.malformed ++ (codes " malformed lines"
    ++ (skipped_part counts.skipped ++ codes "</text>\n")))))))

abbrev pub octaves_of : List ℕ → ℕ
octaves_of axis = max (length axis - 1) 1

abbrev pub curves_text : Bool → ℕ → List Row → List ℕ
curves_text best octaves rows = curve_text octaves rows policies.Lru
    ++ (if best then curve_text octaves rows policies.Min ++ curve_text octaves rows policies.Bypass else [])

abbrev pub svg_text : Counts → Bool → List ℕ → List Row → List ℕ
svg_text counts best axis rows = START.now ++ (label counts.measure ++ (title_text counts
    ++ (flat_map (tick_text (octaves_of axis)) axis ++ (curves_text best (octaves_of axis) rows ++ codes "</svg>\n"))))
