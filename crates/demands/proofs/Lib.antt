-- The three demands hold, `demand1`, `demand2`, `demand3`, and what the requests add: `hands_by_number`, `why_refused`, `lines_on_paper`, `best_line`,
-- `seasons_figures`.
pub mod Examples
pub mod Crossing
pub mod Ordering
pub mod Rows
pub mod Refusing
pub mod Searching
pub mod Hashing
pub mod Replaying
pub mod Papers
pub mod BadSheet
pub mod Seasons
pub mod Demand1
pub mod Demand2
pub mod Demand3
pub mod HandsByNumber
pub mod WhyRefused
pub mod WrittenMoves
pub mod PaperCalls
pub mod ReadingLines
pub mod WritingLines
pub mod LinesOnPaper
pub mod BestLine
pub mod SeasonsFigures
