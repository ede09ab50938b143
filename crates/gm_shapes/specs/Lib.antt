pub mod Segment
pub mod Edge
pub mod Polygon
pub mod Meeting
