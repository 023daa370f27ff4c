-- the right answers about membership, forbidden patterns and minimal lists; each question has only one
pub mod Answers
-- cells, as answers write them
pub mod Cells
-- periodic configurations, as answers write them
pub mod Tiles
-- lists that are made node by node
pub mod NodeLists
-- the patterns that a rule forbids, and its minimal lists, as answers list them
pub mod Lists
