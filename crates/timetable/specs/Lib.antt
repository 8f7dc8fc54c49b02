pub mod Text
pub mod Word
pub mod Row
pub mod Table
