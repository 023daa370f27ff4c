-- how many patterns a rule has at a node, how many states its transfer graph has over a strip, and how many windows there are
pub mod Rules
