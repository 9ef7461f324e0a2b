mod ColumnLemmas
mod ColumnNames
mod Conversions
mod LimitLemmas
mod NodeCounts
mod SendWalk
mod ValueWalk
